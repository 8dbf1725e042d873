-- Laws of the search, each file leaning on those before it; `Agreement` has what follows from the call's promise alone.
pub mod Negated
pub mod Lowest
pub mod Order
pub mod Lightest
pub mod Tried
pub mod Agreement
pub mod Refusals

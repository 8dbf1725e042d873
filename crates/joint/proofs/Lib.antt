-- Laws of the joint call: a place by bits and carries, where a pass stands, what it counts, and the answers.
pub mod Turns
pub mod Standing
pub mod Counting
pub mod Refusals

-- The code's orders as those of the meaning, and where a byte of the number stands in the list. Assumes nothing.
use Rattle.std.specs.Prelude.{ℕ, ◌-◌}
use Rattle.meaning.specs.Scalars as Scalars
use Rattle.meaning.specs.Scalars.{highest_first, lowest_first}
use Rattle.scalar.specs.declared.Order.{Order}
use Rattle.scalar.specs.declared.Order.TheVariants.{HighestFirst, LowestFirst}

abbrev pub ordered : Order → Scalars.Order
ordered HighestFirst = highest_first
ordered LowestFirst = lowest_first

-- the place in a list of n bytes of byte q, counted from the low end of the number
abbrev pub index : Scalars.Order → (n q : ℕ) → ℕ
index highest_first n q = n - 1 - q
index lowest_first n q = q

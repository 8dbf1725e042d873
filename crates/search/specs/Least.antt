-- What the search of what remains answers: the least weight of a string, or that there is none. And the order in which digits are tried.
-- Assumes nothing.
use Rattle.std.specs.Prelude.{◌≡◌, cond, List, ℕ, ◌+◌, ◌-◌, ◌%◌, eqb, ℤ, pos, neg_ℤ, nat_abs, ◌-ℤ◌}
use Rattle.meaning.specs.Searching.{search_places, Spells, LeastWeight}

-- the largest number that is searched
abbrev pub most_number : ℕ
most_number = 127

-- the answer where there is no string: more than any string weighs
abbrev pub nothing : ℕ
nothing = search_places + 1

-- r is the least weight of the strings on this many places that are worth z, or there is no such string
pub data Least (w places : ℕ) (z : ℤ) (r : ℕ) : Type 0 where
  found : LeastWeight w places z r → Least w places z r
  none : r ≡ nothing → ((ds : List ℤ) → Spells w places z ds → ⊥) → Least w places z r

-- the digits in the order 0, 1, -1, 3, -3, ..: D_w has the first 2 ^ (w - 1) + 1 of them
unfoldable pub digit_at : ℕ → ℤ
digit_at i = cond (eqb (i % 2) 1) (pos i) (neg_ℤ (pos (i - 1)))

-- the size of what a number leaves over a digit
abbrev pub left_over : (m i : ℕ) → ℕ
left_over m i = nat_abs (pos m -ℤ digit_at i)

-- The choice of a width: for a scalar and a number of entries that the chip can hold, the whole width whose multiples fit and whose total is least.
-- Assumes nothing.
use Rattle.std.specs.Prelude.{◌≡◌, ◌≢◌, List, [], ◌∷◌, ℕ, ◌+◌, ◌-◌, ◌^◌, ◌≤◌, ℤ}
use Rattle.meaning.specs.Scalars.{Order, number, bit_count}
use Rattle.meaning.specs.Digits.{least_width, most_width}
use Rattle.meaning.specs.Wnaf.{Wnaf}
use Rattle.meaning.specs.Refusals.{Rule, plain, First, long_scalar}
use Rattle.meaning.specs.Walks.{doublings, additions}
use Rattle.meaning.specs.Multiples.{cost_of}
use Rattle.meaning.specs.Taping.{tape_of}

-- ---- widths and their totals
-- how many multiples a whole width has
abbrev pub multiples_at : (w : ℕ) → ℕ
multiples_at w = 2 ^ (w - 2)

-- a whole width from 2 to 8 whose multiples fit into so many entries
pub record Allowed (entries w : ℕ) : Type 0 where
  pub least : least_width ≤ w
  pub most : w ≤ most_width
  pub fit : multiples_at w ≤ entries

-- the total of a string at width w: the doublings and the additions of its tape, and those that the multiples cost
unfoldable pub total_of : (w : ℕ) → List ℤ → ℕ
total_of w ds = (doublings (tape_of ds) + additions (tape_of ds)) + ((cost_of (multiples_at w)).doublings + (cost_of (multiples_at w)).additions)

-- t is the total of the wNAF of N at width w, on n + 1 places
pub record Totals (N n w t : ℕ) : Type 0 where
  pub string : List ℤ
  pub formed : Wnaf w N n string
  pub is : t ≡ total_of w string

-- w is the width to take, and t its total: it is allowed, no allowed width totals less, and of those that total the same it is the smallest
pub record Least (N n entries w t : ℕ) : Type 0 where
  pub allowed : Allowed entries w
  pub totals : Totals N n w t
  pub least : (v u : ℕ) → Allowed entries v → Totals N n v u → t ≤ u
  pub smallest : (v : ℕ) → Allowed entries v → Totals N n v t → w ≤ v

-- ---- the call
-- 3, then 23: no width fits
abbrev pub choose_rules : (s : List ℕ) (entries : ℕ) → List Rule
choose_rules s entries = long_scalar s ∷ plain 23 (entries ≡ 0) ∷ []

-- what it answers
pub record Choice : Type 0 where
  pub refusal : ℕ
  pub width : ℕ
  pub total : ℕ

-- in a refusal: 0 in both fields
pub record Unchosen (a : Choice) : Type 0 where
  pub width_is : a.width ≡ 0
  pub total_is : a.total ≡ 0

pub record Choose (o : Order) (s : List ℕ) (entries : ℕ) (a : Choice) : Type 0 where
  pub first : First (choose_rules s entries) a.refusal 0
  pub accepted : a.refusal ≡ 0 → Least (number o s) (bit_count s) entries a.width a.total
  pub refused : a.refusal ≢ 0 → Unchosen a

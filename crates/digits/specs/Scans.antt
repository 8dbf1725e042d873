-- What a scan of a string finds.
-- Assumes nothing.
use Rattle.std.specs.Prelude.{◌≡◌, List, ℕ, ℤ, Result, Ok, Err}
use Rattle.meaning.specs.Digits.{weight, top}
use Rattle.meaning.specs.Refusals.{Lowest}
use Rattle.meaning.specs.Checking.{BadDigit}
use Rattle.digits.specs.declared.Count.{Count}

-- every digit is in the set of the largest digit m, and c has the string's counts
pub record Whole (m : ℕ) (ds : List ℤ) (c : Count) : Type 0 where
  pub sound : (p : ℕ) → BadDigit m ds p → ⊥
  pub weight_is : c.weight ≡ weight ds
  pub top_is : c.top ≡ top ds

-- the counts, or the lowest bad digit's place
abbrev pub Scan : ℕ → List ℤ → Result Count ℕ → Type 0
Scan m ds (Ok c) = Whole m ds c
Scan m ds (Err p) = Lowest (BadDigit m ds) p

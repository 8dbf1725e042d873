-- What a look at the spacing of the nonzero digits finds.
-- Assumes nothing.
use Rattle.std.specs.Prelude.{◌≢◌, List, ℕ, ◌+◌, ℤ, pos, get_or, Option, Some, None}
use Rattle.meaning.specs.Refusals.{Lowest}
use Rattle.meaning.specs.Checking.{Crowded}

-- no two nonzero digits stand `gap` apart
abbrev pub Clear : ℕ → List ℤ → Type 0
Clear gap ds = (p : ℕ) → get_or ds p (pos 0) ≢ pos 0 → get_or ds (p + gap) (pos 0) ≢ pos 0 → ⊥

-- the lower place of the lowest crowded pair, or that there is none
abbrev pub Spacing : ℕ → List ℤ → Option ℕ → Type 0
Spacing w ds (Some p) = Lowest (Crowded w ds) p
Spacing w ds None = (p : ℕ) → Crowded w ds p → ⊥

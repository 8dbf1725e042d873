-- Form 1, MOF: the digit at place j is d_(j-1) - d_j. Its width is 2.
-- Assumes nothing.
use Rattle.std.specs.Prelude.{List, ℕ, ◌+◌, ℤ, pos, ◌-ℤ◌}
use Rattle.meaning.specs.Scalars.{bit, below}
use Rattle.meaning.specs.Digits.{listed}

-- the digit at place j
abbrev pub mof_digit : ℕ → ℕ → ℤ
mof_digit N j = pos (below N j) -ℤ pos (bit N j)

-- the string of N at places 0 to n
unfoldable pub mof : (N n : ℕ) → List ℤ
mof N n = listed (mof_digit N) 0 (n + 1)

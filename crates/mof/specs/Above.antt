-- MOF as it is written into zeros from the top place down. Assumes nothing.
use Rattle.std.specs.Prelude.{◌≡◌, List, ℕ, ◌+◌, ◌<◌, ◌≤◌, ℤ, pos, length, get_or}
use Rattle.meaning.specs.Mof.{mof_digit}
use Rattle.places.specs.Openings.{Clear}

-- MOF's digits stand from place m up
pub record Above (N n m : ℕ) (ds : List ℤ) : Type 0 where
  pub same_length : length ds ≡ n + 1
  pub within : m ≤ n + 1
  pub stand : (j : ℕ) → m ≤ j → j < n + 1 → get_or ds j (pos 0) ≡ mof_digit N j
  pub clear : Clear m ds

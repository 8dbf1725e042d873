-- Form 2, wNAF: the string of D_w digits worth the scalar in which any w consecutive places hold at most one nonzero. That there is one, and one only, is a theorem.
-- Assumes nothing.
use Rattle.std.specs.Prelude.{◌≡◌, List, ℕ, ◌+◌, T, ℤ, pos, length}
use Rattle.meaning.specs.Digits.{largest, all_in, worth, Apart}

-- ds is the wNAF of N on n + 1 places
pub record Wnaf (w N n : ℕ) (ds : List ℤ) : Type 0 where
  pub length_is : length ds ≡ n + 1
  pub is_in_set : T (all_in (largest w) ds)
  pub worth_is : worth ds ≡ pos N
  pub apart : Apart w ds

-- The best of the widths that were tried. Assumes nothing.
use Rattle.std.specs.Prelude.{ℕ, ◌<◌, ◌≤◌}
use Rattle.meaning.specs.Choosing.{Allowed, Totals}

-- w is the best of the allowed widths under v, and t its total
pub record Best (N n entries v w t : ℕ) : Type 0 where
  pub under : w < v
  pub allowed : Allowed entries w
  pub totals : Totals N n w t
  pub least : (x u : ℕ) → x < v → Allowed entries x → Totals N n x u → t ≤ u
  pub smallest : (x : ℕ) → x < v → Allowed entries x → Totals N n x t → w ≤ x

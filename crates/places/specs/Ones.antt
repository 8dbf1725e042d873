-- The ones counted over words. Assumes nothing.
use Rattle.std.specs.Prelude.{List, ℕ, sum_by}
use Rattle.std.specs.Int.Count.{ones}

abbrev pub ones_of : List ℕ → ℕ
ones_of xs = sum_by ones xs

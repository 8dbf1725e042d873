-- No two nonzero digits stand apart by a gap that was looked at.
use Rattle.std.proofs.Common.{ℕ, ◌<◌}
use Rattle.judge.specs.Spaces.{Clear}
use Rattle.judge.proofs.apart.Given as goal

abbrev pub invariant-loop-gap : goal.invariant-loop-gap
invariant-loop-gap l = (g : ℕ) → g < l.gap → 0 < g → Clear g l.digits

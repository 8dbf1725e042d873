-- The sum is that of the places from k up.
use Rattle.std.proofs.Common.{◌-◌}
use Rattle.judge.specs.Levels.{Stretch}
use Rattle.judge.proofs.lowest_eight.Given as goal

abbrev pub invariant-loop-k : goal.invariant-loop-k
invariant-loop-k l = Stretch l.part l.k (8 - l.k) l.sum

-- What lies before the index reached has come.
use Rattle.std.proofs.Common.{length, ◌-◌}
use Rattle.pipe.proofs.Pouring.{Pouring}
use Rattle.pipe.proofs.PipeTaker.pour.Given as goal

abbrev pub invariant-loop-at : goal.invariant-loop-at
invariant-loop-at l = Pouring l.piece l.fn.self.line l.fn.self.kept l.self.line l.at l.self.kept

abbrev pub decreases-loop-at : goal.decreases-loop-at
decreases-loop-at l = length l.piece - l.at

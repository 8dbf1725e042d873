-- What lies before the index reached has come.
use Rattle.std.proofs.Common.{length, ◌-◌}
use Rattle.salvage.proofs.Pouring.{Pouring}
use Rattle.salvage.proofs.SalvageTaker.pour.Given as goal

abbrev pub invariant-loop-at : goal.invariant-loop-at
invariant-loop-at l = Pouring l.piece l.fn.self.line l.fn.self.kept l.fn.self.number l.self.line l.at l.self.kept l.self.number

abbrev pub decreases-loop-at : goal.decreases-loop-at
decreases-loop-at l = length l.piece - l.at

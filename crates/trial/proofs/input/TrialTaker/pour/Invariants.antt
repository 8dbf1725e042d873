-- What is used lies within the block, and what is kept within the line; what is left of the block falls.
use Rattle.std.proofs.Common.{length, ◌-◌, ◌≤◌}
use Rattle.trial.proofs.input.TrialTaker.pour.Given as goal

abbrev pub invariant-loop-at : goal.invariant-loop-at
invariant-loop-at l = record { at_within : l.at ≤ length l.piece; kept_within : l.self.kept ≤ length l.self.line }

abbrev pub decreases-loop-at : goal.decreases-loop-at
decreases-loop-at l = length l.piece - l.at

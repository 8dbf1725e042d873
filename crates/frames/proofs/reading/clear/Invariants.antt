-- The places under the one reached are 0.
use Rattle.std.proofs.Common.{length, ◌-◌, ◌≤◌}
use Rattle.frames.proofs.Clearing.{Cleared}
use Rattle.frames.proofs.reading.clear.Given as goal

abbrev pub invariant-loop-next : goal.invariant-loop-next
invariant-loop-next l = (l.at ≤ length l.digits) × Cleared l.fn.digits l.digits l.at

abbrev pub decreases-loop-next : goal.decreases-loop-next
decreases-loop-next l = length l.digits - l.at

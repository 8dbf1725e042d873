-- The digits passed are in the set.
use Rattle.digits.proofs.Scans.{Passed}
use Rattle.digits.proofs.lowest_bad.Given as goal

abbrev pub invariant-loop-i : goal.invariant-loop-i
invariant-loop-i l = Passed l.width.largest l.digits l.i

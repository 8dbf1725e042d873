-- The nonzero digits passed stand apart, and the next may stand from place `free` on.
use Rattle.judge.proofs.Spaces.{Roomy}
use Rattle.judge.proofs.near.Given as goal

abbrev pub invariant-loop-i : goal.invariant-loop-i
invariant-loop-i l = Roomy l.w l.digits l.free l.i

-- Where the flag stands, each pair passed has a 0.
use Rattle.std.proofs.Common.{◌≡◌, true}
use Rattle.judge.proofs.Spaces.{Cleared}
use Rattle.judge.proofs.clear.Given as goal

abbrev pub invariant-loop-i : goal.invariant-loop-i
invariant-loop-i l = l.all ≡ true → Cleared l.gap l.digits l.i

-- The words of the places from i on are laid. Assumes nothing.
use Rattle.std.proofs.Common.{◌<◌}
use Rattle.tape.proofs.Writes.{Laid}
use Rattle.tape.proofs.write.Given as goal

abbrev pub invariant-loop-i : goal.invariant-loop-i
invariant-loop-i g l = (0 < l.i) × Laid (g.P.Places.string l.digits) l.initial.words l.words l.i l.at

-- The digits are written up to place i.
use Rattle.meaning.specs.Hexadecimal.{bytes_of}
use Rattle.meaning.specs.Frames.{digits_in}
use Rattle.laws.proofs.Stores.{Filled}
use Rattle.frames.proofs.reading.copy.Given as goal

abbrev pub invariant-loop-i : goal.invariant-loop-i
invariant-loop-i l = Filled (digits_in (bytes_of l.line)) l.fn.digits l.digits l.i

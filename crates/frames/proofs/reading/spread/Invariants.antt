-- The entries under entry e stand at their places.
use Rattle.meaning.specs.Hexadecimal.{bytes_of}
use Rattle.frames.proofs.Spreading.{Spread}
use Rattle.frames.proofs.reading.spread.Given as goal

abbrev pub invariant-loop-e : goal.invariant-loop-e
invariant-loop-e l = Spread (bytes_of l.line) l.places l.fn.digits l.digits l.e

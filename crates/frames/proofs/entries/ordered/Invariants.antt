-- What is left of the entries rises over the floor exactly when all rise.
use Rattle.meaning.specs.Hexadecimal.{bytes_of}
use Rattle.frames.proofs.Ordering.{Passed}
use Rattle.frames.proofs.entries.ordered.Given as goal

abbrev pub invariant-loop-e : goal.invariant-loop-e
invariant-loop-e l = Passed (bytes_of l.line) l.places l.e-end l.floor l.e

-- The digits under place i are counted.
use Rattle.meaning.specs.Hexadecimal.{bytes_of}
use Rattle.meaning.specs.Frames.{digits_in}
use Rattle.frames.proofs.Counting.{Passed}
use Rattle.frames.proofs.reading.tally.Given as goal

abbrev pub invariant-loop-i : goal.invariant-loop-i
invariant-loop-i l = Passed (digits_in (bytes_of l.line)) l.count.weight l.count.top l.i

-- Two characters are written for each byte of each number that is passed.
use Rattle.std.proofs.Common.{◌*◌}
use Rattle.asking.specs.Printing.{Wrote}
use Rattle.asking.proofs.print.Printer.numbers.Given as goal

abbrev pub invariant-loop-number : goal.invariant-loop-number
invariant-loop-number g l = Wrote l.initial.here l.here (2 * g.T.Number.size * l.number-index)

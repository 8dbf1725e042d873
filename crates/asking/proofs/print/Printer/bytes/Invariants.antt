-- Two characters are written for each byte that is passed.
use Rattle.std.proofs.Common.{◌*◌}
use Rattle.asking.specs.Printing.{Wrote}
use Rattle.asking.proofs.print.Printer.bytes.Given as goal

abbrev pub invariant-loop-byte : goal.invariant-loop-byte
invariant-loop-byte g l = Wrote l.initial.self l.self (2 * l.byte-index)

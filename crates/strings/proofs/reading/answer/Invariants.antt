-- Four characters are written for each call.
use Rattle.std.proofs.Common.{◌*◌}
use Rattle.asking.specs.Printing.{Wrote}
use Rattle.strings.proofs.reading.answer.Given as goal

abbrev pub invariant-loop : goal.invariant-loop
invariant-loop l = Wrote l.initial.printer l.printer (4 * l.counter)

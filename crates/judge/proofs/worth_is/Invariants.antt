-- The string is worth the number exactly when the places still to be compared are.
use Rattle.meaning.specs.Scalars.{number}
use Rattle.scalar.specs.Orders.{ordered}
use Rattle.judge.proofs.Levels.{Compared}
use Rattle.judge.proofs.worth_is.Given as goal

abbrev pub invariant-both : goal.invariant-both
invariant-both l = Compared (number (ordered l.order) l.scalar) l.digits l.q l.carry

abbrev pub invariant-above : goal.invariant-above
invariant-above l = Compared (number (ordered l.order) l.scalar) l.digits l.q l.carry

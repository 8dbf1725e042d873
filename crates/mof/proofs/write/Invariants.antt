-- The digits over the places left stand.
use Rattle.meaning.specs.Scalars.{number, bit_count}
use Rattle.scalar.specs.Orders.{ordered}
use Rattle.mof.specs.Above.{Above}
use Rattle.places.specs.Lent.{Lent}
use Rattle.mof.proofs.write.Given as goal

abbrev pub invariant-loop-left : goal.invariant-loop-left
invariant-loop-left l = record { above : Above (number (ordered l.order) l.s) (bit_count l.s) l.left l.places.digits.now; same : Lent l.initial.places l.places }

abbrev pub decreases-loop-left : goal.decreases-loop-left
decreases-loop-left l = l.left

-- The digits over some places stand, and `opens` tells where others do.
use Rattle.meaning.specs.Scalars.{number, bit_count}
use Rattle.scalar.specs.Orders.{ordered}
use Rattle.mof.proofs.Above.{Told}
use Rattle.places.specs.Lent.{Lent}
use Rattle.mof.proofs.advance.Given as goal

abbrev pub invariant-loop-opens : goal.invariant-loop-opens
invariant-loop-opens l = record { told : Told (number (ordered l.fn.order) l.s) (bit_count l.s) l.lowest l.x l.opens l.places.digits.now; same : Lent l.initial.places l.places }

abbrev pub decreases-loop-opens : goal.decreases-loop-opens
decreases-loop-opens l = l.opens

-- The windows over the places left are written, and `opens` tells where others open.
use Rattle.meaning.specs.Scalars.{number}
use Rattle.places.specs.Lent.{Lent}
use Rattle.scalar.specs.Orders.{ordered}
use Rattle.descending.proofs.Sweeping.{Down}
use Rattle.descending.proofs.advance.Given as goal

abbrev pub invariant-loop-opens : goal.invariant-loop-opens
invariant-loop-opens l =
    record {
      down : Down l.w.bits (number (ordered l.fn.order) l.s) l.lowest l.x l.floor l.from l.initial.places.digits.now l.opens l.left l.places.digits.now;
      same : Lent l.initial.places l.places;
    }

abbrev pub decreases-loop-opens : goal.decreases-loop-opens
decreases-loop-opens l = l.left

-- What the buffer of zeros came to it still comes to.
use Rattle.std.specs.Int.Count.{count_trailing_zeros}
use Rattle.meaning.specs.Scalars.{number, bit_count}
use Rattle.places.specs.Lent.{Lent}
use Rattle.scalar.specs.Orders.{ordered}
use Rattle.descending.specs.Sweeps.{Descent, bit_of}
use Rattle.descending.proofs.write.Given as goal

abbrev pub invariant-loop-floor : goal.invariant-loop-floor
invariant-loop-floor l =
    record {
      descent :
          Descent (bit_of l.fn.turn) l.w.bits (number (ordered l.order) l.s) (count_trailing_zeros (bit_count l.s) (number (ordered l.order) l.s)) (bit_count l.s) l.floor l.left l.places.digits.now;
      same : Lent l.initial.places l.places;
    }

abbrev pub decreases-loop-floor : goal.decreases-loop-floor
decreases-loop-floor l = l.left

-- The best of the widths under w is known.
use Rattle.meaning.specs.Scalars.{number, bit_count}
use Rattle.scalar.specs.Orders.{ordered}
use Rattle.choice.specs.Best.{Best}
use Rattle.choice.proofs.choose.Given as goal

abbrev pub invariant-loop-w : goal.invariant-loop-w
invariant-loop-w l = Best (number (ordered l.order) l.scalar) (bit_count l.scalar) l.entries l.w l.best.width l.best.total

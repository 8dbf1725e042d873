use Rattle.std.proofs.Common.{arith}
use Rattle.scalar.specs.Orders.{ordered}
use Rattle.choice.proofs.Tries.{best_first, best_all}
use Rattle.choice.proofs.Refusals.{accepts}
use Rattle.choice.proofs.choose.Goals as goal

pub loop-w-init : goal.loop-w-init
loop-w-init c = best_first (omega arith) (rw c.from.ensures at c.total.ensures)

pub returns : goal.returns
returns c = accepts (ordered c.args.order) c.args.scalar.now c.args.entries (omega arith) (omega arith) (best_all c.loop-w.invariant (omega arith))

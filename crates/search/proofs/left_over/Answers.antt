-- An odd number is its digit, an even one the digit under it negated.
use Rattle.std.proofs.Common.{arith}
use Rattle.search.proofs.Order.{left_even, left_odd}
use Rattle.search.proofs.left_over.Goals as goal

pub returns-then-i-eq0 : goal.returns-then-i-eq0
returns-then-i-eq0 c = omega (arith, left_even c.args.size c.args.i (omega arith))

pub returns-then-i-eq0-2 : goal.returns-then-i-eq0-2
returns-then-i-eq0-2 c = omega (arith, left_even c.args.size c.args.i (omega arith))

pub returns-else-i-eq0-2 : goal.returns-else-i-eq0-2
returns-else-i-eq0-2 c = omega (arith, c.abs_diff.ensures, left_odd c.args.size c.args.i (omega arith))

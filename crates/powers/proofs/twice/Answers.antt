-- Twice so few fit.
use Rattle.std.proofs.Common.{arith}
use Rattle.walk.proofs.Multiples.{cost_few}
use Rattle.powers.proofs.twice.Goals as goal

pub overflow_mul-result : goal.overflow_mul-result
overflow_mul-result c = omega (arith, c.cost_of-once.ensures.0, (cost_few c.args.count).0)

pub overflow_mul-result-2 : goal.overflow_mul-result-2
overflow_mul-result-2 c = omega (arith, c.cost_of-once.ensures.1, (cost_few c.args.count).1)

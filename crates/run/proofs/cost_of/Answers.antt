-- The base alone costs nothing, and more multiples a doubling and an addition each.
use Rattle.std.proofs.Common.{sym, arith}
use Rattle.walk.proofs.Multiples.{cost_one, cost_more}
use Rattle.run.proofs.cost_of.Goals as goal

pub returns-then-count-lt2 : goal.returns-then-count-lt2
returns-then-count-lt2 c = let (d, n) = cost_one c.args.count (omega arith) in (sym d, sym n)

pub returns : goal.returns
returns c = let (d, n) = cost_more c.args.count (omega arith) in (sym d, sym n)

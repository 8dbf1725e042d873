use Rattle.choice.proofs.Totals.{cost_none, cost_some}
use Rattle.choice.proofs.cost.Goals as goal

pub returns-then-count-lt2 : goal.returns-then-count-lt2
returns-then-count-lt2 c = cost_none c.args.count c.if-count-lt2.true

pub returns-else-count-lt2 : goal.returns-else-count-lt2
returns-else-count-lt2 c = cost_some c.args.count c.if-count-lt2.false

-- Each return is the judgement of one step.
use Rattle.tape.specs.Steps.{side}
use Rattle.run.proofs.Words.{says, judged_double, judged_load, judged_late, judged_add, judged_early, judged_bad}
use Rattle.run.proofs.good.Goals as goal

pub returns-in-Double : goal.returns-in-Double
returns-in-Double c = judged_double _ _ _ c.requires (says c.args.word c.decode.ensures c.in-Double.is)

pub returns-then-index-eq0 : goal.returns-then-index-eq0
returns-then-index-eq0 c = judged_load _ _ _ (side c.in-Load.m.sign) c.in-Load.m.entry (says c.args.word c.decode.ensures c.in-Load.is) c.if-index-eq0.true c.held.ensures

pub returns-else-index-eq0 : goal.returns-else-index-eq0
returns-else-index-eq0 c = judged_late _ _ _ (side c.in-Load.m.sign) c.in-Load.m.entry (says c.args.word c.decode.ensures c.in-Load.is) c.if-index-eq0.false

pub returns-then-index-ne0 : goal.returns-then-index-ne0
returns-then-index-ne0 c = judged_add _ _ _ (side c.in-Add.m.sign) c.in-Add.m.entry (says c.args.word c.decode.ensures c.in-Add.is) c.if-index-ne0.true c.held-then-index-ne0.ensures

pub returns-else-index-ne0 : goal.returns-else-index-ne0
returns-else-index-ne0 c = judged_early _ _ _ (side c.in-Add.m.sign) c.in-Add.m.entry (says c.args.word c.decode.ensures c.in-Add.is) c.if-index-ne0.false

pub returns-in-Bad : goal.returns-in-Bad
returns-in-Bad c = judged_bad _ _ _ (says c.args.word c.decode.ensures c.in-Bad.is)

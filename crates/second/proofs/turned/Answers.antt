-- What negates has another code and entry, and another word stands.
use Rattle.second.proofs.Words.{turned_minus, turned_plus}
use Rattle.second.proofs.turned.Goals as goal

pub returns-then-negates : goal.returns-then-negates
returns-then-negates c = turned_minus c.args.count c.args.word (c.negates.ensures.yes c.if-negates.true)

pub returns-else-negates : goal.returns-else-negates
returns-else-negates c = turned_plus c.args.count c.args.word (c.negates.ensures.no c.if-negates.false) c.requires.2

-- What makes no set is refused.
use Rattle.second.proofs.Translates.{refuses_set}
use Rattle.second.proofs.translate.Goals as goal

pub returns-in_err-tried : goal.returns-in_err-tried
returns-in_err-tried c = refuses_set c.args.set.width c.args.set.largest c.args.tape.now c.args.words.now _ _ c.in_err-tried.ensures c.from_residual.ensures.1

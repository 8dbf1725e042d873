-- A refusal leaves both buffers.
use Rattle.std.proofs.lemmas.Result.{err_from_is_err_and}
use Rattle.recoder.proofs.Refusals.{unrecoded}
use Rattle.recoder.proofs.recode.Goals as goal

pub returns-in_err-asked : goal.returns-in_err-asked
returns-in_err-asked c =
    let (r, is, at) = err_from_is_err_and c.from_residual.result c.from_residual.ensures.1 in
    rw is (unrecoded _ _ _ _ _ _ _ at c.in_err-asked.ensures)

-- Where nothing about the group's order is broken the plain call is made.
use Rattle.std.proofs.lemmas.Result.{err_from_is_err_and}
use Rattle.recoder.proofs.Refusals.{unrecoded}
use Rattle.recoder.proofs.recode_below.Goals as goal

pub returns-in_err-bounded : goal.returns-in_err-bounded
returns-in_err-bounded c =
    let (r, is, at) = err_from_is_err_and c.from_residual.result c.from_residual.ensures.1 in
    rw is (unrecoded _ _ _ _ _ _ _ at (c.in_err-bounded.ensures _ _))

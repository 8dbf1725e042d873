-- Each refusal is the first rule that applies, and a string that is accepted breaks none.
use Rattle.std.proofs.Common.{◌∙◌, refl, ap, arith}
use Rattle.std.proofs.lemmas.Result.{err_from_is_err_and}
use Rattle.refusals.specs.Coded.{coded}
use Rattle.forms.proofs.Strings.{weight_le, top_le}
use Rattle.meaning.specs.Checking.{check_rules}
use Rattle.scalar.specs.Orders.{ordered}
use Rattle.width.proofs.Widths.{set_refused}
use Rattle.judge.proofs.Refusals.{refuses}
use Rattle.judge.proofs.check.Goals as goal

pub returns-in_err-width : goal.returns-in_err-width
returns-in_err-width c =
    let a = c.args in
    let (r, is, at) = err_from_is_err_and c.from_residual.result c.from_residual.ensures.1 in
    let rules = check_rules a.set.width a.set.largest (ordered a.order) a.scalar.now a.digits.now in
    let (i, e, u) = set_refused rules _ refl c.in_err-width.ensures in
    rw is (refuses rules tt a.digits.now i r (ap coded at.0 ∙ e) (rw at.1 u))

pub overflow_cast-result-in-Ok : goal.overflow_cast-result-in-Ok
overflow_cast-result-in-Ok c = record { fits = omega (arith, c.in-Ok.ensures.weight_is, weight_le c.args.digits.now) }

pub overflow_cast-result-in-Ok-2 : goal.overflow_cast-result-in-Ok-2
overflow_cast-result-in-Ok-2 c = record { fits = omega (arith, c.in-Ok.ensures.top_is, top_le c.args.digits.now) }

-- The first string's refusal, or the second's, or the lighter of the two.
use Rattle.std.proofs.Common.{arith, refl}
use Rattle.std.proofs.lemmas.Result.{err_from_is_err_and}
use Rattle.refusals.proofs.Coded.{coded_some}
use Rattle.lighter.proofs.Picks.{whole_of, first_refused, second_refused, picks_first, picks_second}
use Rattle.lighter.proofs.pick.Goals as goal

pub returns-in_err-one : goal.returns-in_err-one
returns-in_err-one c =
    let (r, is, at) = err_from_is_err_and c.from_residual.result c.from_residual.ensures.1 in
    rw (is, at) (first_refused _ _ _ _ _ (whole_of c.args.width c.whole-set.result c.whole-set.ensures _ _ _ _ c.in_err-one.ensures) (coded_some _))

pub returns-in_err-other : goal.returns-in_err-other
returns-in_err-other c =
    let (r, is, at) = err_from_is_err_and c.from_residual-in_err-other.result c.from_residual-in_err-other.ensures.1 in
    rw (is, at)
    (second_refused _ _ _ _ _ (whole_of c.args.width c.whole-set.result c.whole-set.ensures _ _ _ _ c.in_ok-one.ensures) refl
    (whole_of c.args.width c.whole-set.result c.whole-set.ensures _ _ _ _ c.in_err-other.ensures) (coded_some _))

pub returns-then-one-other : goal.returns-then-one-other
returns-then-one-other c =
    picks_first _ _ _ _ _ (whole_of c.args.width c.whole-set.result c.whole-set.ensures _ _ _ _ c.in_ok-one.ensures) refl
    (whole_of c.args.width c.whole-set.result c.whole-set.ensures _ _ _ _ c.in_ok-other.ensures) refl (omega arith)

pub returns : goal.returns
returns c =
    picks_second _ _ _ _ _ (whole_of c.args.width c.whole-set.result c.whole-set.ensures _ _ _ _ c.in_ok-one.ensures) refl
    (whole_of c.args.width c.whole-set.result c.whole-set.ensures _ _ _ _ c.in_ok-other.ensures) refl (omega arith)

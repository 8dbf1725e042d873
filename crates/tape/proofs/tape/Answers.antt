-- Each return is one answer. Assumes nothing.
use Rattle.std.proofs.Common.{refl, ap, arith, rules}
use Rattle.refusals.specs.Coded.{coded}
use Rattle.width.proofs.Widths.{set_fine}
use Rattle.digits.specs.Scans.{Whole}
use Rattle.walk.proofs.Lengths.{tape_fits}
use Rattle.tape.proofs.Refusals.{refuses, refuses_set, needed_is, accepts}
use Rattle.tape.proofs.tape.Goals as goal

pub returns-in_err-width : goal.returns-in_err-width
returns-in_err-width c = refuses_set c.args.set.width c.args.set.largest c.args.digits.now c.args.words.now _ _ c.in_err-width.ensures c.from_residual.ensures.1

pub overflow_add-needed : goal.overflow_add-needed
overflow_add-needed c =
    let whole : Whole c.args.set.largest c.args.digits.now c.in_ok-count.count = search rules in
    omega (arith, needed_is whole, tape_fits c.args.digits.now c.if-digits-gt-MOST_PLACES.false)

pub returns-then-words-needed : goal.returns-then-words-needed
returns-then-words-needed c =
    let whole : Whole c.args.set.largest c.args.digits.now c.in_ok-count.count = search rules in
    let (reason, place) = c.into-then-words-needed.ensures in
    let (fine, set) = set_fine c.in_ok-width.ensures.2 in
    refuses c.args.set.width c.args.set.largest c.args.digits.now c.args.words.now 4 0 _ (ap coded reason) place
    (fine, (set, ((λ l. omega arith), (whole.sound, (omega (arith, needed_is whole), refl)))))

pub write-requires-clause-digits_in_bounds : goal.write-requires-clause-digits_in_bounds
write-requires-clause-digits_in_bounds c =
    let whole : Whole c.args.set.largest c.args.digits.now c.in_ok-count.count = search rules in
    omega (arith, needed_is whole)

pub overflow_cast-result : goal.overflow_cast-result
overflow_cast-result c =
    let whole : Whole c.args.set.largest c.args.digits.now c.in_ok-count.count = search rules in
    omega (arith, needed_is whole, tape_fits c.args.digits.now c.if-digits-gt-MOST_PLACES.false)

pub overflow_cast-result-2 : goal.overflow_cast-result-2
overflow_cast-result-2 c =
    let whole : Whole c.args.set.largest c.args.digits.now c.in_ok-count.count = search rules in
    omega (arith, needed_is whole, tape_fits c.args.digits.now c.if-digits-gt-MOST_PLACES.false)

pub overflow_cast-result-3 : goal.overflow_cast-result-3
overflow_cast-result-3 c =
    let whole : Whole c.args.set.largest c.args.digits.now c.in_ok-count.count = search rules in
    omega (arith, needed_is whole, tape_fits c.args.digits.now c.if-digits-gt-MOST_PLACES.false)

pub returns : goal.returns
returns c =
    let whole : Whole c.args.set.largest c.args.digits.now c.in_ok-count.count = search rules in
    accepts c.args.set.width c.args.set.largest c.args.digits.now c.args.words.now c.in_ok-width.ensures.2 c.if-digits-gt-MOST_PLACES.false whole (omega (arith, needed_is whole))
    (omega (arith, needed_is whole)) c.saturating_sub-doublings.ensures c.saturating_sub.ensures c.write.ensures

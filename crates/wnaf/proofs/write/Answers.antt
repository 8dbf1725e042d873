-- Over zeros all digits of the string are left; each is put where it stands.
use Rattle.std.proofs.Common.{[], ◌≡◌, ◌+◌, sym, ap, ◌∙◌, pos, replicate, set, arith}
use Rattle.meaning.specs.Scalars.{number, bit_count}
use Rattle.meaning.specs.Digits.{top}
use Rattle.scalar.specs.Orders.{ordered}
use Rattle.scalar.proofs.Bytes.{number_lt}
use Rattle.width.proofs.Widths.{pair_small}
use Rattle.forms.specs.Fractional.{fractional_from}
use Rattle.forms.proofs.Made.{from_length}
use Rattle.wnaf.specs.Coming.{digits_left}
use Rattle.wnaf.proofs.Strings.{topped, found_top, partly_none, partly_all, partly_put, put_kept}
use Rattle.wnaf.proofs.write.Goals as goal

pub loop-string-init : goal.loop-string-init
loop-string-init c =
    let a = c.args in
    let p = bit_count a.s.now + 1 in
    let string = fractional_from a.set.w.bits a.set.largest p (number (ordered a.order) a.s.now) in
    let all = c.of-string.ensures.value in
    let long = c.requires.digits_len ∙ sym (from_length a.set.w.bits a.set.largest p (number (ordered a.order) a.s.now)) in
    record {
      partly = rw all (partly_none string (c.clear.ensures.digits_after ∙ ap (λ t. replicate t (pos 0)) long));
      top_is = ap (topped 0) all ∙ found_top string;
      marked = c.clear.ensures.marks_after;
      used = c.of-string.ensures.used;
    }

pub put-requires-clause-place_in_bounds : goal.put-requires-clause-place_in_bounds
put-requires-clause-place_in_bounds c = (partly_put (rw c.in-Some.ensures.first at c.loop-place.invariant.partly)).inside

pub put-requires-clause-pos_value : goal.put-requires-clause-pos_value
put-requires-clause-pos_value c = (partly_put (rw c.in-Some.ensures.first at c.loop-place.invariant.partly)).clear

pub put-requires-clause-digit_nonzero : goal.put-requires-clause-digit_nonzero
put-requires-clause-digit_nonzero c e =
    let p = rw c.in-Some.ensures.first at c.loop-place.invariant.partly in
    let pair = c.args.set.pair in
    (partly_put p).some (sym (put_kept (bit_count c.args.s.now) pair.between (pair_small pair) (number_lt (ordered c.args.order) c.args.s.now (λ i. (c.type_inv.s i).fits)) p) ∙ e)

pub overflow_add-top : goal.overflow_add-top
overflow_add-top c =
    let put = partly_put (rw c.in-Some.ensures.first at c.loop-place.invariant.partly) in
    record { fits = omega (arith, put.inside, c.loop-place.auto.digits) }

pub loop-place-preserved : goal.loop-place-preserved
loop-place-preserved c =
    let p = rw c.in-Some.ensures.first at c.loop-place.invariant.partly in
    let pair = c.args.set.pair in
    let kept = put_kept (bit_count c.args.s.now) pair.between (pair_small pair) (number_lt (ordered c.args.order) c.args.s.now (λ i. (c.type_inv.s i).fits)) p in
    let digits = c.put.ensures.digits_after ∙ ap (set c.loop-place.digits c.in-Some.place) kept in
    record {
      partly = rw digits (partly_put p).put;
      top_is = sym (ap (topped c.loop-place.top) c.in-Some.ensures.first) ∙ c.loop-place.invariant.top_is;
      marked = c.put.ensures.marks_after;
      end_same = c.in-Some.ensures.end_same ∙ c.loop-place.invariant.end_same;
    }

pub returns-clause-digits_after : goal.returns-clause-digits_after
returns-clause-digits_after c =
    let e = c.loop-string-test.ensures in
    let none : digits_left c.loop-string.string ≡ [] = sym e.same ∙ e.more in
    partly_all (rw none at c.loop-string.invariant.partly)

pub returns-clause-value : goal.returns-clause-value
returns-clause-value c =
    let e = c.loop-string-test.ensures in
    let none : digits_left c.loop-string.string ≡ [] = sym e.same ∙ e.more in
    let l = c.loop-string in
    sym (ap (topped l.top) none) ∙ l.invariant.top_is ∙ sym (ap top (partly_all (rw none at l.invariant.partly)))

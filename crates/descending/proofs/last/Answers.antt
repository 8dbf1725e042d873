-- The digit of the window less one, and a 1 at the lowest set bit.
use Rattle.std.proofs.Common.{◌∙◌, set, sym, ap, rules, w8}
use mir.Val.{SFits}
use mir.Facts.{to_z-of_z}
use Rattle.meaning.specs.Scalars.{number, bit_count}
use Rattle.scalar.specs.Orders.{ordered}
use Rattle.scalar.proofs.Bytes.{number_lt}
use Rattle.descending.proofs.Sweeping.{tie_differ, tie_odd, tie_digit, tie_yields}
use Rattle.descending.proofs.last.Goals as goal

pub work_out-requires-clause-s_nonzero : goal.work_out-requires-clause-s_nonzero
work_out-requires-clause-s_nonzero c =
    let a = c.args in
    let small = number_lt (ordered a.order) a.s.now (λ i. (c.type_inv.s i).fits) in
    tie_differ a.w.bits (number (ordered a.order) a.s.now) (bit_count a.s.now) c.lowest-low.result c.args.w.wide.0 small c.lowest-low.ensures c.requires.tied.opens c.window-bits.ensures

pub work_out-requires-clause-less_bound : goal.work_out-requires-clause-less_bound
work_out-requires-clause-less_bound c =
    let a = c.args in
    let small = number_lt (ordered a.order) a.s.now (λ i. (c.type_inv.s i).fits) in
    tie_odd a.w.bits (number (ordered a.order) a.s.now) (bit_count a.s.now) c.lowest-low.result c.args.w.wide.0 small c.lowest-low.ensures c.requires.tied.opens c.window-bits.ensures

pub put-requires-clause-digit_nonzero : goal.put-requires-clause-digit_nonzero
put-requires-clause-digit_nonzero c e =
    let a = c.args in
    let small = number_lt (ordered a.order) a.s.now (λ i. (c.type_inv.s i).fits) in
    let f : SFits w8 c.placed-place.result.unit = search rules in
    tie_digit a.w.bits (number (ordered a.order) a.s.now) (bit_count a.s.now) c.lowest-low.result c.args.w.wide.0 small c.lowest-low.ensures c.requires.tied.opens c.window-bits.ensures
    c.work_out.ensures c.placed-place.ensures (sym (to_z-of_z f) ∙ e)

pub returns-clause-yielded : goal.returns-clause-yielded
returns-clause-yielded c =
    let a = c.args in
    let p = c.placed-place.result in
    let small = number_lt (ordered a.order) a.s.now (λ i. (c.type_inv.s i).fits) in
    let f : SFits w8 p.unit = search rules in
    tie_yields a.w.bits (number (ordered a.order) a.s.now) (bit_count a.s.now) c.lowest-low.result c.args.w.wide.0 small c.lowest-low.ensures c.requires.tied.opens c.window-bits.ensures
    c.work_out.ensures c.placed-place.ensures a.places.now.digits.now (c.put.ensures.digits_after ∙ ap (set a.places.now.digits.now p.spot) (to_z-of_z f)) c.put-2.ensures.digits_after

-- A place that the stretch tells holds 0 still, and its digit is not 0.
use Rattle.std.proofs.Common.{◌+◌, sym, ◌∙◌, arith, rules, w8}
use borrow.Author.Rules.{sfits_of}
use mir.Facts.{to_z-of_z}
use Rattle.mof.proofs.Above.{told_end, told_under, told_digit, told_nonzero, told_put}
use Rattle.mof.proofs.advance.Goals as goal

pub digit-requires : goal.digit-requires
digit-requires c =
    let t = c.loop-opens.invariant.told in
    omega (arith, told_under c.stretch_under-x.ensures t c.highest-at.result c.highest-at.ensures, t.room)

pub put-requires-clause-place_in_bounds : goal.put-requires-clause-place_in_bounds
put-requires-clause-place_in_bounds c =
    let t = c.loop-opens.invariant.told in
    omega (arith, told_under c.stretch_under-x.ensures t c.highest-at.result c.highest-at.ensures, t.above.within, t.above.same_length)

pub put-requires-clause-pos_value : goal.put-requires-clause-pos_value
put-requires-clause-pos_value c =
    let t = c.loop-opens.invariant.told in
    t.above.clear (c.lowest_place-lowest.result + c.highest-at.result) (told_under c.stretch_under-x.ensures t c.highest-at.result c.highest-at.ensures)

pub put-requires-clause-digit_nonzero : goal.put-requires-clause-digit_nonzero
put-requires-clause-digit_nonzero c e =
    let x = c.stretch_under-x.ensures in
    let t = c.loop-opens.invariant.told in
    let r = c.highest-at.result in
    let z = to_z-of_z {w = w8} (sfits_of c.digit.type_inv) ∙ c.digit.ensures ∙ told_digit x t r c.highest-at.ensures in
    told_nonzero x t r c.highest-at.ensures (sym z ∙ e)

pub loop-opens-preserved : goal.loop-opens-preserved
loop-opens-preserved c =
    let x = c.stretch_under-x.ensures in
    let t = c.loop-opens.invariant.told in
    let r = c.highest-at.result in
    let z = to_z-of_z {w = w8} (sfits_of c.digit.type_inv) ∙ c.digit.ensures ∙ told_digit x t r c.highest-at.ensures in
    record { told = told_put x t r c.highest-at.ensures _ z c.put.ensures.digits_after c.others-opens.ensures; same = search rules }

pub returns-clause-above_2 : goal.returns-clause-above_2
returns-clause-above_2 c = told_end c.stretch_under-x.ensures c.loop-opens.invariant.told c.loop-opens-test.false

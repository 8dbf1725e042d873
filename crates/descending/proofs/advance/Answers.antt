-- Where the stretch tells that a window opens, the window is worked out, and its digit stands where zeros are left.
use Rattle.std.proofs.Common.{sym, ap, ◌∙◌, arith, rules, w8, set}
use mir.Val.{SFits}
use mir.Facts.{to_z-of_z}
use Rattle.descending.proofs.Sweeping.{down_some, down_end, down_differ, down_room, down_puts, down_spot, down_fewer, down_digit, down_put}
use Rattle.descending.proofs.advance.Goals as goal

pub highest-at-requires : goal.highest-at-requires
highest-at-requires c = down_some c.args.w.wide.0 c.stretch_under-x.ensures c.lowest_place-lowest.ensures c.loop-opens.invariant.down c.loop-opens-test.true

pub work_out-requires-clause-s_nonzero : goal.work_out-requires-clause-s_nonzero
work_out-requires-clause-s_nonzero c =
    down_differ c.args.w.wide.0 c.stretch_under-x.ensures c.lowest_place-lowest.ensures c.loop-opens.invariant.down c.highest-at.result c.highest-at.ensures c.window-bits.ensures

pub placed-place-requires : goal.placed-place-requires
placed-place-requires c =
    let d = c.loop-opens.invariant.down in
    down_room c.args.w.wide.0 c.stretch_under-x.ensures c.lowest_place-lowest.ensures d c.highest-at.result c.highest-at.ensures c.window-bits.ensures c.work_out.ensures
    (omega (arith, d.swept.fewer))

pub put-requires-clause-place_in_bounds : goal.put-requires-clause-place_in_bounds
put-requires-clause-place_in_bounds c =
    let d = c.loop-opens.invariant.down in
    let spot =
    down_spot c.args.w.wide.0 c.stretch_under-x.ensures c.lowest_place-lowest.ensures d c.highest-at.result c.highest-at.ensures c.window-bits.ensures c.work_out.ensures
    c.placed-place.ensures in
    omega (arith, spot, d.swept.fewer, d.swept.same_length)

pub put-requires-clause-pos_value : goal.put-requires-clause-pos_value
put-requires-clause-pos_value c =
    let d = c.loop-opens.invariant.down in
    d.swept.clear c.placed-place.result.spot
    (down_spot c.args.w.wide.0 c.stretch_under-x.ensures c.lowest_place-lowest.ensures d c.highest-at.result c.highest-at.ensures c.window-bits.ensures c.work_out.ensures
    c.placed-place.ensures)

pub put-requires-clause-digit_nonzero : goal.put-requires-clause-digit_nonzero
put-requires-clause-digit_nonzero c e =
    let f : SFits w8 c.placed-place.result.unit = search rules in
    down_digit c.args.w.wide.0 c.stretch_under-x.ensures c.lowest_place-lowest.ensures c.loop-opens.invariant.down c.highest-at.result c.highest-at.ensures c.window-bits.ensures
    c.work_out.ensures c.placed-place.ensures (sym (to_z-of_z f) ∙ e)

pub loop-opens-smaller : goal.loop-opens-smaller
loop-opens-smaller c =
    down_fewer c.args.w.wide.0 c.stretch_under-x.ensures c.lowest_place-lowest.ensures c.loop-opens.invariant.down c.highest-at.result c.highest-at.ensures c.window-bits.ensures
    c.work_out.ensures c.placed-place.ensures

pub loop-opens-preserved : goal.loop-opens-preserved
loop-opens-preserved c =
    let d = c.loop-opens.invariant.down in
    let p = c.placed-place.result in
    let two = c.args.w.wide.0 in
    let x = c.stretch_under-x.ensures in
    let b = c.lowest_place-lowest.ensures in
    let top = c.highest-at.ensures in
    let f : SFits w8 p.unit = search rules in
    let puts = down_puts two x b d c.highest-at.result top c.window-bits.ensures c.work_out.ensures c.placed-place.ensures in
    record {
      down = down_put two x b d c.highest-at.result top p puts (c.put.ensures.digits_after ∙ ap (set c.loop-opens.places.digits.now p.spot) (to_z-of_z f)) c.below-opens.ensures;
      same = search rules;
    }

pub returns-clause-swept : goal.returns-clause-swept
returns-clause-swept c =
    (down_end c.args.w.wide.0 c.stretch_under-x.ensures c.lowest_place-lowest.ensures c.loop-opens.invariant.down c.loop-opens-test.false (λ h. omega arith) (λ h. omega arith)).1

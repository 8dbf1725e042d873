-- At first all digits of the string are left; and it has no more than its places.
use Rattle.std.proofs.Common.{◌+◌, ap, ◌∙◌, length, arith}
use Rattle.meaning.specs.Scalars.{number, bit_count}
use Rattle.scalar.specs.Orders.{ordered}
use Rattle.forms.specs.Fractional.{fractional_from}
use Rattle.forms.proofs.Made.{from_length}
use Rattle.forms.proofs.Strings.{weight_le}
use Rattle.wnaf.proofs.Strings.{topped, found_weight, found_top, coming_inside}
use Rattle.wnaf.proofs.count.Goals as goal

pub loop-string-init : goal.loop-string-init
loop-string-init c =
    let a = c.args in
    let string = fractional_from a.set.w.bits a.set.largest (bit_count a.s.now + 1) (number (ordered a.order) a.s.now) in
    let all = c.of-string.ensures.value in
    record { weight_is = omega (arith, ap length all, found_weight 0 string); top_is = ap (topped 0) all ∙ found_top string; used = c.of-string.ensures.used }

pub overflow_add-weight : goal.overflow_add-weight
overflow_add-weight c =
    let a = c.args in
    let p = bit_count a.s.now + 1 in
    let n = number (ordered a.order) a.s.now in
    record { fits = omega (arith, c.loop-place.invariant.weight_is, ap length c.in-Some.ensures.first, weight_le (fractional_from a.set.w.bits a.set.largest p n), from_length a.set.w.bits a.set.largest p n) }

pub overflow_add-top : goal.overflow_add-top
overflow_add-top c =
    let i = c.loop-place.string in
    let inside = coming_inside i.set.w.bits i.set.largest (bit_count i.s.now + 1) (number (ordered i.order) i.s.now) i.place i.carry 0 c.in-Some.ensures.first in
    record { fits = omega (arith, inside, i.ready.few) }

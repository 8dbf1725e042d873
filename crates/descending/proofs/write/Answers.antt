-- What the buffer comes to at the end is the string of the form.
use Rattle.std.proofs.Common.{◌≡◌, ◌+◌, sym, ap, ◌∙◌, arith, rules}
use Rattle.std.specs.Int.Count.{count_trailing_zeros}
use Rattle.meaning.specs.Scalars.{number, bit_count}
use Rattle.forms.proofs.Loops.{from, from_done}
use Rattle.scalar.specs.Orders.{ordered}
use Rattle.scalar.proofs.Bytes.{number_lt}
use Rattle.descending.specs.Sweeps.{bit_of}
use Rattle.descending.proofs.Sweeping.{descent_start, descent_end}
use Rattle.descending.proofs.write.Goals as goal

pub loop-floor-init : goal.loop-floor-init
loop-floor-init c =
    let a = c.args in
    let small = number_lt (ordered a.order) a.s.now (λ i. (c.type_inv.s i).fits) in
    record { descent = descent_start a.digits.now c.cleared-places.result.digits.now c.halt-floor.ensures small c.requires.digits_len c.cleared-places.ensures.zeros; same = search rules }

pub returns-then-floor-ne0-clause-turned : goal.returns-then-floor-ne0-clause-turned
returns-then-floor-ne0-clause-turned c =
    let a = c.args in
    let l = c.loop-floor in
    let d = l.invariant.descent in
    let N = number (ordered a.order) a.s.now in
    let n = bit_count a.s.now in
    let t = count_trailing_zeros n N in
    let small = number_lt (ordered a.order) a.s.now (λ i. (c.type_inv.s i).fits) in
    let at : l.left ≡ t + a.w.bits + 1 = omega (arith, d.within.0, c.loop-floor-test.false, (d.some c.if-floor-ne0.true).0) in
    let come = d.comes ∙ ap (λ x. from (bit_of a.turn) a.w.bits N t x l.places.digits.now) at ∙ c.last.ensures.yielded.comes (bit_of a.turn) (d.some c.if-floor-ne0.true).2 in
    let held : _ ≡ c.last.new.places.digits.now = search rules in
    descent_end a.turn a.w.bits N n c.args.w.wide.0 small (come ∙ sym held)

pub returns-else-floor-ne0-clause-turned : goal.returns-else-floor-ne0-clause-turned
returns-else-floor-ne0-clause-turned c =
    let a = c.args in
    let l = c.loop-floor in
    let d = l.invariant.descent in
    let N = number (ordered a.order) a.s.now in
    let n = bit_count a.s.now in
    let t = count_trailing_zeros n N in
    let small = number_lt (ordered a.order) a.s.now (λ i. (c.type_inv.s i).fits) in
    let none : l.left ≡ 0 = omega (arith, c.loop-floor-test.false, c.if-floor-ne0.false) in
    let come = d.comes ∙ ap (λ x. from (bit_of a.turn) a.w.bits N t x l.places.digits.now) none ∙ from_done (bit_of a.turn) a.w.bits N t l.places.digits.now in
    let held : _ ≡ l.places.digits.now = search rules in
    descent_end a.turn a.w.bits N n c.args.w.wide.0 small (come ∙ sym held)

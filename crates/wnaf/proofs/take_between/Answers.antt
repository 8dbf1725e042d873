-- The digit is what the number raised by the largest leaves over, less the largest, or less a span of the lower width too.
use Rattle.std.proofs.Common.{◌≡◌, ◌+◌, ◌*◌, ◌%◌, ◌/◌, ◌^◌, ◌∙◌, ℕ, arith}
use Rattle.meaning.specs.Sets.{Pair}
use Rattle.laws.proofs.Shifts.{one_shifted}
use Rattle.laws.proofs.Powers.{pow_next}
use Rattle.width.proofs.Widths.{pair_wide, pair_small}
use Rattle.wnaf.proofs.Taking.{takes_near, left_far, takes_far}
use Rattle.wnaf.proofs.take_between.Goals as goal

span : {w m : ℕ} → Pair w m → 1 * 2 ^ (w + 1) % 2 ^ 64 ≡ 2 * 2 ^ w
span {w} pair = one_shifted (w + 1) 64 (omega (arith, pair_wide pair)) ∙ pow_next w

pub returns-then-rest-largest : goal.returns-then-rest-largest
returns-then-rest-largest c =
    let a = c.args in
    let pair = c.args.set.pair in
    takes_near a.set.w.bits a.set.largest a.y pair.between c.requires.0 (span pair) c.if-rest-largest.true c.left.ensures

pub left-requires-2 : goal.left-requires-2
left-requires-2 c =
    let a = c.args in
    let pair = c.args.set.pair in
    let far = left_far a.set.w.bits a.set.largest a.y pair.between c.requires.0 (span pair) c.if-rest-largest.false in
    (omega (arith, far.0, span pair, pair_small pair), omega (arith, far.1, span pair, pair_small pair))

pub returns : goal.returns
returns c =
    let a = c.args in
    let pair = c.args.set.pair in
    let half : 1 * 2 ^ (a.set.w.bits + 1) % 2 ^ 64 / 2 ≡ 2 ^ a.set.w.bits = omega (arith, span pair) in
    takes_far a.set.w.bits a.set.largest a.y pair.between c.requires.0 (span pair) c.if-rest-largest.false (rw half at c.left-2.ensures)

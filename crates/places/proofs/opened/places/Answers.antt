-- What is shifted out over 64 bits lies over those that are asked for.
use Rattle.std.proofs.Common.{◌≡◌, ◌+◌, ◌*◌, ◌-◌, ◌/◌, ◌%◌, ◌^◌, sym, ap, ◌∙◌, arith, bit_xor}
use lib.Pow.{mod-mod-pow}
use Rattle.laws.proofs.Shifts.{one_shifted}
use Rattle.places.proofs.Openings.{low_shifted}
use Rattle.places.proofs.opened.places.Goals as goal

pub returns : goal.returns
returns c =
    let a = c.args in
    let d = bit_xor a.x (a.x / 2) / 2 ^ a.tail in
    let p = a.count + a.tail in
    let e : 64 - p + p ≡ 64 = omega arith in
    let f : p - a.tail ≡ a.count = omega arith in
    ap (λ t. d * 2 ^ a.tail % 2 ^ 64 % t) (one_shifted p 64 (omega arith))
    ∙ ap (λ t. d * 2 ^ a.tail % 2 ^ t % 2 ^ p) (sym e)
    ∙ mod-mod-pow (d * 2 ^ a.tail) (64 - p) p
    ∙ low_shifted d a.tail p
    ∙ ap (λ t. d % 2 ^ t * 2 ^ a.tail) f

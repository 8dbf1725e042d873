-- None of the bytes lies in the scalar, or some of a short one, or some, or all.
use Rattle.std.proofs.Common.{◌≡◌, ◌∙◌, sym, ap, ◌+◌, ◌-◌, ◌*◌, ◌/◌, ◌%◌, ◌^◌, length, arith}
use native.Mathlib.Nat.{mod-eq_of_lt}
use lib.Pow.{shr-shr}
use Rattle.meaning.specs.Scalars.{number}
use Rattle.scalar.specs.Orders.{ordered}
use Rattle.scalar.proofs.Bytes.{Bytes, none_past, few_left}
use Rattle.scalar.proofs.word.Goals as goal

pub returns-then-s-q : goal.returns-then-s-q
returns-then-s-q c = let a = c.args in omega (arith, none_past (ordered a.order) a.s.now (λ i. (c.type_inv.s i).fits) a.q c.if-s-q.true)

pub returns-then-s-lt8 : goal.returns-then-s-lt8
returns-then-s-lt8 c =
    let a = c.args in
    let N = number (ordered a.order) a.s.now in
    let n = length a.s.now in
    let e : N / 2 ^ (8 * (n - (n - a.q))) ≡ N / 2 ^ (8 * a.q) = ap (λ t. N / 2 ^ (8 * t)) (omega arith) in
    c.highest.ensures ∙ e ∙ sym (mod-eq_of_lt (few_left (ordered a.order) a.s.now (λ i. (c.type_inv.s i).fits) a.q (omega arith)))

pub returns-then-count-lt8 : goal.returns-then-count-lt8
returns-then-count-lt8 c =
    let a = c.args in
    let N = number (ordered a.order) a.s.now in
    let n = length a.s.now in
    let k = 8 * (8 - (n - a.q)) in
    let bytes : Bytes a.s.now = λ i. (c.type_inv.s i).fits in
    let all : N / 2 ^ (8 * (n - 8)) % 2 ^ 64 ≡ N / 2 ^ (8 * (n - 8)) = mod-eq_of_lt (few_left (ordered a.order) a.s.now bytes (n - 8) (omega arith)) in
    let down : N / 2 ^ (8 * (n - 8) + k) ≡ N / 2 ^ (8 * a.q) = ap (λ t. N / 2 ^ t) (omega arith) in
    ap (λ t. t / 2 ^ k) (c.eight.ensures ∙ all) ∙ shr-shr N (8 * (n - 8)) k ∙ down ∙ sym (mod-eq_of_lt (few_left (ordered a.order) a.s.now bytes a.q (omega arith)))

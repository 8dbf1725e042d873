-- The digit that is taken off an odd number, by what the code has left over. Assumes nothing.
use mathlib.Core.Path.{◌≡◌, sym, ap, ◌∙◌}
use Prim.Native.Nat.{ℕ, ◌+◌, ◌*◌, ◌-◌, ◌/◌, ◌%◌, ◌^◌, ◌<◌, ◌≤◌}
use native.Mathlib.Omega.{arith}
use native.Mathlib.Decide.{dec_lt}
use native.Mathlib.Nat.{mod-lt}
use lib.IntN.{ℤ, pos, ◌-ℤ◌}
use lib.Pow.{pow_pos, split}
use Rattle.laws.proofs.Integers.{diffs, ring, minus}
use Rattle.meaning.specs.Sets.{Between}
use Rattle.forms.proofs.Made.{Sizes, sizes_of}
use Rattle.forms.proofs.Turns.{digit_over}
use Rattle.wnaf.specs.Stretches.{Left, Takes}

pos_plus : (e k : ℕ) → k ≤ e → pos e -ℤ pos k ≡ pos (e - k + (k - e))
pos_plus e k h = rw (minus k) (simp diffs (omega ring))

pos_minus : (e k : ℕ) → e ≤ k → pos e -ℤ pos k ≡ pos 0 -ℤ pos (e - k + (k - e))
pos_minus e k h = rw (minus k, minus (e - k + (k - e))) (simp diffs (omega ring))

-- y raised by k is e over q times 2 ^ w
module _ (w m y k q e : ℕ) (set : Between w m) (odd : y % 2 ≡ 1) (is : y + k ≡ q * 2 ^ w + e) (over : e ≤ k + m) (under : k ≤ e + m)
    (other : q % 2 ≡ 1 → (e + m < k + 2 ^ w) × (k + m < e + 2 ^ w)) where
  pub takes_of : {digit : ℤ} {carry next : ℕ} → Left e k q digit carry next → Takes w m y digit carry next
  takes_of {digit} {carry} {next} l =
      record {
        size = e - k + (k - e);
        digit_is = l.digit_is ∙ sym (digit_over w m y k e set odd over under q is other);
        small = omega arith;
        one = one (dec_lt e k);
        plus = λ z. let h = above z (dec_lt e k) in (l.digit_is ∙ pos_plus e k h, omega (arith, ap (λ t. t * 2 ^ w) l.next_is));
        minus = λ z. let h = below z (dec_lt e k) in (l.digit_is ∙ pos_minus e k h, omega (arith, ap (λ t. t * 2 ^ w) l.next_is));
      }
    where
      one : Dec (e < k) → carry ≤ 1
      one (yes h) = omega (arith, l.carry_is.low h)
      one (no h) = omega (arith, l.carry_is.high (omega arith))

      above : carry ≡ 0 → Dec (e < k) → k ≤ e
      above z (yes h) = absurd (omega (arith, l.carry_is.low h))
      above z (no h) = omega arith

      below : carry ≡ 1 → Dec (e < k) → e ≤ k
      below z (yes h) = omega arith
      below z (no h) = absurd (omega (arith, l.carry_is.high (omega arith)))

-- ---- what is left over of a raised number
odd_left : (y h A e t : ℕ) → y % 2 ≡ 1 → h ≡ 2 * t → y + h ≡ 2 * A + e → e % 2 ≡ 1
odd_left y h A e t o f g = omega arith

module _ (w m y : ℕ) (set : Between w m) (odd : y % 2 ≡ 1) where
  sizes : Sizes w m
  sizes = sizes_of w m set

  -- in a whole set, by half of the span
  module _ (h W : ℕ) (whole : m + 1 ≡ h) (span : 2 * h ≡ 2 ^ w) (W_is : W ≡ 2 ^ w) where
    abbrev e₁ : ℕ
    e₁ = (y + h) % W

    abbrev q₁ : ℕ
    q₁ = (y + h) / 2 ^ w

    parts₁ : y + h ≡ q₁ * 2 ^ w + e₁
    parts₁ = sym (split (y + h) w) ∙ ap (λ t. q₁ * 2 ^ w + (y + h) % t) (sym W_is)

    even₁ : q₁ * 2 ^ w ≡ 2 * (q₁ * 2 ^ (w - 1))
    even₁ = ap (λ t. q₁ * t) sizes.half ∙ omega arith

    odd₁ : e₁ % 2 ≡ 1
    odd₁ = odd_left y h (q₁ * 2 ^ (w - 1)) e₁ (2 ^ (w - 1 - 1)) odd (omega (arith, sizes)) (omega (arith, parts₁, even₁))

    left_whole : (e₁ < 2 * h) × (0 < e₁)
    left_whole = (omega (arith, mod-lt (y + h) {m = W} (omega (arith, pow_pos w)), span, W_is), omega (arith, odd₁))

    pub takes_whole : {digit : ℤ} {carry next : ℕ} → Left e₁ h q₁ digit carry next → Takes w m y digit carry next
    takes_whole l =
        let (b, s) = left_whole in
        takes_of w m y h q₁ e₁ set odd parts₁ (omega arith) (omega arith) (λ _. (omega arith, omega arith)) l

  -- in a set between two widths, by the largest digit
  module _ {W : ℕ} (double : W ≡ 2 * 2 ^ w) where
    abbrev e₂ : ℕ
    e₂ = (y + m) % W

    abbrev Q : ℕ
    Q = (y + m) / W

    W_is : W ≡ 2 ^ (w + 1)
    W_is = double ∙ sym sizes.double

    parts₂ : y + m ≡ 2 * (Q * 2 ^ w) + e₂
    parts₂ =
        let s : y + m ≡ (y + m) / 2 ^ (w + 1) * 2 ^ (w + 1) + (y + m) % 2 ^ (w + 1) = sym (split (y + m) (w + 1)) in
        let t : y + m ≡ Q * W + e₂ = s ∙ sym (ap (λ x. (y + m) / x * x + (y + m) % x) W_is) in
        omega (arith, ap (λ x. Q * x) double)

    under₂ : e₂ < W
    under₂ = mod-lt (y + m) (omega (arith, pow_pos w))

    even₂ : e₂ % 2 ≡ 0
    even₂ = omega (arith, parts₂, set.odd)

    twice : (b : ℕ) → (2 * Q + b) * 2 ^ w ≡ 2 * (Q * 2 ^ w) + b * 2 ^ w
    twice b = omega arith

    pub takes_near : e₂ ≤ 2 * m → {digit : ℤ} {carry next : ℕ} → Left e₂ m (2 * Q) digit carry next → Takes w m y digit carry next
    takes_near h l = takes_of w m y m (2 * Q) e₂ set odd (omega (arith, parts₂)) (omega arith) (omega arith) (λ o. absurd (omega arith)) l

    pub left_far : 2 * m < e₂ → (e₂ ≤ m + 2 ^ w + m) × (m + 2 ^ w ≤ e₂ + m)
    left_far h = (omega (arith, under₂, even₂, sizes, set.odd), omega (arith, even₂, sizes))

    pub takes_far : 2 * m < e₂ → {digit : ℤ} {carry next : ℕ} → Left e₂ (m + 2 ^ w) (2 * Q + 1) digit carry next → Takes w m y digit carry next
    takes_far h l =
        let (a, b) = left_far h in
        takes_of w m y (m + 2 ^ w) (2 * Q + 1) e₂ set odd (omega (arith, parts₂, twice 1)) (omega arith) (omega arith) (λ _. (omega (arith, under₂), omega arith)) l

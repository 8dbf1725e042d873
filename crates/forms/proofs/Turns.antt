-- Form 2 in a set as code makes it, place by place: the digit of a number by what it is over a multiple of 2 ^ w, and what a turn gives where R remains, which has the
-- closed form `remaining`. Assumes nothing.
use mathlib.Core.Path.{◌≡◌, refl, sym, ap, ◌∙◌}
use mathlib.Core.Bool.{cond}
use Prim.Native.Nat.{ℕ, zero, suc, ◌+◌, ◌*◌, ◌-◌, ◌/◌, ◌%◌, ◌^◌, ◌<◌, ◌≤◌}
use native.Mathlib.Omega.{arith}
use native.Mathlib.Decide.{dec_le}
use native.Mathlib.Nat.{mul-one, add-zero}
use lib.Dec.{eqb}
use lib.IntN.{ℤ, pos, nat_abs, +ℤ_comm, ◌+ℤ◌, ◌-ℤ◌, ◌*ℤ◌}
use lib.Pow.{low, high, shr-shr, mod-mod-pow}
use Rattle.laws.proofs.Integers.{diffs, ring, minus, same_left}
use Rattle.laws.proofs.Powers.{pow_pred}
use Rattle.meaning.specs.Sets.{Between}
use Rattle.forms.specs.Fractional.{third, fractional_digit, fractional_next, remaining, Turn}
use Rattle.forms.proofs.Made.{Sizes, sizes_of, even_is, low_is, middle_is, high_is, sound}

-- where none is skipped, there remains what is left of N, and the carry
pub remaining_none : (N i c : ℕ) → remaining N i c 0 ≡ N / 2 ^ i + c
remaining_none N i c = mul-one (N / 2 ^ (i + 0) + c) ∙ ap (λ t. N / 2 ^ t + c) (add-zero i)

-- ---- zeros
-- while digits are skipped
pub turn_skipped : (w m N i carry skip : ℕ) → 0 < skip → Turn w m N i (remaining N i carry skip) carry (skip - 1) (pos 0)
turn_skipped w m N i carry skip s =
    let q = N / 2 ^ (i + skip) + carry in
    let twice : q * 2 ^ skip ≡ 2 * (q * 2 ^ (skip - 1)) = ap (λ t. q * t) (pow_pred skip s) ∙ omega arith in
    let (d, n) = even_is w m (q * 2 ^ skip) (omega arith) in
    let at : i + 1 + (skip - 1) ≡ i + skip = omega arith in
    record {
      digit = sym d;
      next = ap (λ t. (N / 2 ^ t + carry) * 2 ^ (skip - 1)) at ∙ omega (arith, n);
    }

-- and at an even number
pub turn_even : (w m N i c : ℕ) → c ≤ 1 → (N / 2 ^ i + c) % 2 ≡ 0 → Turn w m N i (remaining N i c 0) c 0 (pos 0)
turn_even w m N i c one h =
    let R = remaining N i c 0 in
    let (d, n) = even_is w m R (omega (arith, remaining_none N i c)) in
    record { digit = sym d; next = remaining_none N (i + 1) c ∙ ap (λ t. t + c) (sym (shr-shr N i 1)) ∙ omega (arith, remaining_none N i c, n) }

-- ---- the digit
-- it depends on the residue alone
pub digit_by : (w m y R : ℕ) → y % 2 ^ (w + 1) ≡ R % 2 ^ (w + 1) → fractional_digit w m y ≡ fractional_digit w m R
unfolding fractional_digit
digit_by w m y R e =
    let p : y % 2 ≡ R % 2 = sym (mod-mod-pow y w 1) ∙ ap (λ t. t % 2) e ∙ mod-mod-pow R w 1 in
    ap (λ t. cond (eqb t 0) (pos 0) (third w m (y % 2 ^ (w + 1)) (pos (y % 2 ^ (w + 1))) (pos (y % 2 ^ (w + 1)) -ℤ pos (2 ^ w)) (pos (y % 2 ^ (w + 1)) -ℤ pos (2 ^ (w + 1))))) p
    ∙ ap (λ r. cond (eqb (R % 2) 0) (pos 0) (third w m r (pos r) (pos r -ℤ pos (2 ^ w)) (pos r -ℤ pos (2 ^ (w + 1))))) e

sub_same : (a b c d : ℕ) → a + d ≡ c + b → pos a -ℤ pos b ≡ pos c -ℤ pos d
sub_same a b c d e = rw (minus b, minus d) (simp diffs (omega ring))

sub_none : (a c d : ℕ) → a + d ≡ c → pos a ≡ pos c -ℤ pos d
sub_none a c d e = rw (minus d) (simp diffs (omega ring))

-- an odd y, raised by k, is e over q times 2 ^ w: e less k is the digit where it has at most the size m, and where q is odd, so that the residue modulo 2 ^ (w + 1) is
-- another, that one is larger
module _ (w m y k e : ℕ) (set : Between w m) (odd : y % 2 ≡ 1) (over : e ≤ k + m) (under : k ≤ e + m) where
  sizes : Sizes w m
  sizes = sizes_of w m set

  twice : (t : ℕ) → t * 2 ^ (w + 1) ≡ 2 * (t * 2 ^ w)
  twice t = ap (λ p. t * p) sizes.double ∙ omega arith

  -- y by its residue r
  residue : (t r : ℕ) → y ≡ t * 2 ^ (w + 1) + r → r < 2 ^ (w + 1) → y % 2 ^ (w + 1) ≡ r
  residue t r f l = ap (λ p. p % 2 ^ (w + 1)) f ∙ low t (w + 1) l

  -- q is even
  digit_even : (t : ℕ) → y + k ≡ t * 2 ^ (w + 1) + e → fractional_digit w m y ≡ pos e -ℤ pos k
  digit_even t is = go t is (dec_le k e)
    where
      go : (t : ℕ) → y + k ≡ t * 2 ^ (w + 1) + e → Dec (k ≤ e) → fractional_digit w m y ≡ pos e -ℤ pos k
      go t f (yes h) =
          let r = residue t (e - k) (omega arith) (omega (arith, sizes)) in
          (low_is w m y odd (omega arith)).0 ∙ sub_none (y % 2 ^ (w + 1)) e k (omega arith)
      go zero f (no h) = absurd (omega arith)
      go (suc t) f (no h) =
          let r = residue t (2 ^ (w + 1) + e - k) (omega (arith, sizes)) (omega (arith, sizes)) in
          (high_is w m y odd (omega (arith, sizes)) (omega (arith, sizes))).0 ∙ sub_same (y % 2 ^ (w + 1)) (2 ^ (w + 1)) e k (omega (arith, sizes))

  -- q is odd
  digit_odd : (t : ℕ) → y + k ≡ t * 2 ^ (w + 1) + (2 ^ w + e) → e + m < k + 2 ^ w → k + m < e + 2 ^ w → fractional_digit w m y ≡ pos e -ℤ pos k
  digit_odd t f a b =
      let r = residue t (2 ^ w + e - k) (omega arith) (omega (arith, sizes)) in
      (middle_is w m y odd (omega arith) (omega (arith, sizes))).0 ∙ sub_same (y % 2 ^ (w + 1)) (2 ^ w) e k (omega arith)

  pub digit_over : (q : ℕ) → y + k ≡ q * 2 ^ w + e → (q % 2 ≡ 1 → (e + m < k + 2 ^ w) × (k + m < e + 2 ^ w)) → fractional_digit w m y ≡ pos e -ℤ pos k
  digit_over q is other = go (q % 2) refl
    where
      by_half : (b : ℕ) → q ≡ 2 * (q / 2) + b → q * 2 ^ w ≡ 2 * (q / 2 * 2 ^ w) + b * 2 ^ w
      by_half b f = ap (λ t. t * 2 ^ w) f ∙ omega arith

      go : (b : ℕ) → q % 2 ≡ b → fractional_digit w m y ≡ pos e -ℤ pos k
      go zero z = digit_even (q / 2) (omega (arith, twice (q / 2), by_half 0 (omega arith)))
      go (suc b) z =
          let (a, c) = other (omega arith) in
          digit_odd (q / 2) (omega (arith, twice (q / 2), by_half 1 (omega arith))) a c

-- ---- a turn with its digit, where z is over Z times 2 ^ w
module _ (w m N i c : ℕ) (set : Between w m) (one : c ≤ 1) where
  abbrev R : ℕ
  R = N / 2 ^ i + c

  -- what remains is the number over the digit
  next_is : (X H W Z x : ℕ) (d : ℤ) → W ≡ 2 * H → pos X ≡ d +ℤ pos 2 *ℤ pos x → pos X ≡ pos W *ℤ pos Z +ℤ d → Z * H ≡ x
  next_is X H W Z x d e f g =
      let k : W * Z ≡ 2 * x = ap nat_abs (same_left (pos W *ℤ pos Z) (pos 2 *ℤ pos x) d (sym g ∙ f ∙ +ℤ_comm d (pos 2 *ℤ pos x))) in
      let p : W * Z ≡ 2 * (Z * H) = ap (λ t. t * Z) e ∙ omega arith in
      omega arith

  pub turn_digit : (c' Z : ℕ) (d : ℤ) → Z ≡ N / 2 ^ (i + w) + c' → d ≡ fractional_digit w m R → pos R ≡ pos (2 ^ w) *ℤ pos Z +ℤ d → Turn w m N i (remaining N i c 0) c' (w - 1) d
  turn_digit c' Z d above is by =
      let all = remaining_none N i c in
      let at : i + 1 + (w - 1) ≡ i + w = omega (arith, set.wide) in
      let s = sound w m set R in
      record {
        digit = is ∙ ap (fractional_digit w m) (sym all);
        next =
            ap (λ t. (N / 2 ^ t + c') * 2 ^ (w - 1)) at
            ∙ ap (λ t. t * 2 ^ (w - 1)) (sym above)
            ∙ next_is R (2 ^ (w - 1)) (2 ^ w) Z (fractional_next w m R) d (pow_pred w (omega (arith, set.wide))) (s ∙ ap (λ t. t +ℤ pos 2 *ℤ pos (fractional_next w m R)) (sym is)) by
            ∙ ap (fractional_next w m) (sym all);
      }

  -- the number over a digit above nought, and below it
  pub above_plus : (Z s : ℕ) → R ≡ Z * 2 ^ w + s → c ≤ s → s ≤ m → Z ≡ N / 2 ^ (i + w) + 0
  above_plus Z s e some small =
      let f : N / 2 ^ i ≡ Z * 2 ^ w + (s - c) = omega arith in
      sym (add-zero (N / 2 ^ (i + w)) ∙ sym (shr-shr N i w) ∙ ap (λ t. t / 2 ^ w) f ∙ high Z w (omega (arith, sizes_of w m set)))

  pub above_minus : (Z s : ℕ) → R + s ≡ Z * 2 ^ w → 1 ≤ s → s ≤ m → Z ≡ N / 2 ^ (i + w) + 1
  above_minus zero s e some small = absurd (omega arith)
  above_minus (suc Z) s e some small =
      let f : N / 2 ^ i ≡ Z * 2 ^ w + (2 ^ w - s - c) = omega (arith, sizes_of w m set) in
      let g = sym (shr-shr N i w) ∙ ap (λ t. t / 2 ^ w) f ∙ high Z w (omega (arith, sizes_of w m set)) in
      omega (arith, g)

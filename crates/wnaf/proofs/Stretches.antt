-- Form 2 by stretches: a number x that agrees with what remains in its low bits gives the zeros that are passed, the digit over them, and what remains after it.
-- Assumes nothing.
use mathlib.Core.Path.{◌≡◌, refl, sym, ap, subst, ◌∙◌}
use mathlib.Core.Logic.{◌≢◌}
use mathlib.Core.List.{[], ◌∷◌}
use Prim.Native.Nat.{ℕ, zero, suc, ◌+◌, ◌*◌, ◌-◌, ◌/◌, ◌%◌, ◌^◌, ◌<◌, ◌≤◌}
use native.Mathlib.Omega.{arith}
use native.Mathlib.Decide.{dec_lt, ℕ_discrete}
use native.Mathlib.Nat.{add-zero, div-one, mod-one, mod-lt, mod-eq_of_lt, mul-add-mod_self_right, mul-le-mul_left}
use native.Mathlib.Numerals.{add-one}
use lib.Count.{count_trailing_zeros, under, trailing_of_zero}
use lib.IntN.{ℤ, pos, nat_abs, ◌+ℤ◌, ◌-ℤ◌, ◌*ℤ◌}
use lib.Pow.{pow_pos, pow_mono, split, high, low, mod-pow-add, shr-shr, shr_le}
use mir.Syntax.{w8}
use mir.Val.{SFits, to_z, of_z}
use mir.Facts.{to_z-of_z}
use Rattle.laws.proofs.Signed.{plain_is, negated_fits}
use Rattle.laws.proofs.Integers.{diffs, ring, minus, sub_zero_same}
use Rattle.laws.proofs.Powers.{pow_pred, odd_part_is}
use Rattle.meaning.specs.Scalars.{most_bytes}
use Rattle.meaning.specs.Sets.{Between, Pair}
use Rattle.forms.specs.Fractional.{fractional_digit, fractional_from, remaining, Turn}
use Rattle.forms.proofs.Turns.{turn_skipped, turn_even, digit_by, turn_digit, above_plus, above_minus}
use Rattle.places.proofs.Openings.{same_low, same_high}
use Rattle.width.proofs.Widths.{pair_small}
use Rattle.wnaf.specs.Stretches.{found, coming, Ready, Takes}
use Rattle.wnaf.proofs.Strings.{found_digit, found_pass}

-- ---- low bits in which two numbers agree
-- the same is added to both
pub same_more : (A B c m : ℕ) → A % 2 ^ m ≡ B % 2 ^ m → (A + c) % 2 ^ m ≡ (B + c) % 2 ^ m
same_more A B c m e = part A ∙ ap (λ t. (t + c) % 2 ^ m) e ∙ sym (part B)
  where
    part : (X : ℕ) → (X + c) % 2 ^ m ≡ (X % 2 ^ m + c) % 2 ^ m
    part X =
        let P = 2 ^ m in
        let f : X + c ≡ X / P * P + (X % P + c) = omega (arith, split X m) in
        ap (λ t. t % P) f ∙ mul-add-mod_self_right (X / P) P (X % P + c)

-- ---- trailing zeros
-- as many of the low bits are 0
pub zeros_low : (d k x : ℕ) → k ≤ count_trailing_zeros d x → x % 2 ^ k ≡ 0
unfolding count_trailing_zeros
zeros_low d zero x h = mod-one x
zeros_low zero (suc k) x h = absurd (omega arith)
zeros_low (suc d) (suc k) x h = go (x % 2) refl h (zeros_low d k (x / 2))
  where
    go : (r : ℕ) → x % 2 ≡ r → suc k ≤ under r (count_trailing_zeros d (x / 2)) → (k ≤ count_trailing_zeros d (x / 2) → x / 2 % 2 ^ k ≡ 0) → x % 2 ^ suc k ≡ 0
    go zero e l f = ap (λ t. x % 2 ^ t) (sym (add-one k)) ∙ mod-pow-add x k 1 ∙ omega (arith, f (omega arith))
    go (suc r) e l f = absurd (omega arith)

-- and the bit over them is set, unless all are 0
pub odd_over : (d x : ℕ) → x < 2 ^ d → count_trailing_zeros d x < d → x / 2 ^ count_trailing_zeros d x % 2 ≡ 1
odd_over d zero l h = absurd (omega (arith, trailing_of_zero d))
odd_over d (suc x) l h = (odd_part_is d (suc x) (omega arith) l).1

-- ---- the digits to come
module _ (w m p N : ℕ) where
  -- a turn's digit is the first, and then come the others
  turned : (i c s c' s' : ℕ) (z : ℤ) → i < p → Turn w m N i (remaining N i c s) c' s' z
      → fractional_from w m (p - i) (remaining N i c s) ≡ z ∷ fractional_from w m (p - (i + 1)) (remaining N (i + 1) c' s')
  unfolding fractional_from
  turned i c s c' s' z h t =
      let k : p - i ≡ suc (p - (i + 1)) = omega arith in
      cc (t.digit, t.next, ap (λ t. fractional_from w m t (remaining N i c s)) k)

  -- past the last place none come
  pub coming_end : (i c s : ℕ) → p ≤ i → coming w m p N i c s ≡ []
  unfolding fractional_from found
  coming_end i c s h =
      let k : p - i ≡ 0 = omega arith in
      ap (λ t. found i (fractional_from w m t (remaining N i c s))) k

  -- a digit that is 0 is passed
  coming_pass : (i c s c' s' : ℕ) → Turn w m N i (remaining N i c s) c' s' (pos 0) → coming w m p N i c s ≡ coming w m p N (i + 1) c' s'
  coming_pass i c s c' s' t = go (dec_lt i p)
    where
      go : Dec (i < p) → coming w m p N i c s ≡ coming w m p N (i + 1) c' s'
      go (yes h) = ap (found i) (turned i c s c' s' (pos 0) h t) ∙ found_pass i (fractional_from w m (p - (i + 1)) (remaining N (i + 1) c' s'))
      go (no h) = coming_end i c s (omega arith) ∙ sym (coming_end (i + 1) c' s' (omega arith))

  -- and so are those that are skipped
  coming_skipped : (i c s : ℕ) → coming w m p N i c s ≡ coming w m p N (i + s) c 0
  coming_skipped i c zero = ap (λ t. coming w m p N t c 0) (sym (add-zero i))
  coming_skipped i c (suc s) =
      let e : i + 1 + s ≡ i + suc s = omega arith in
      let k : suc s - 1 ≡ s = omega arith in
      coming_pass i c (suc s) c s (rw k at (turn_skipped w m N i c (suc s) (omega arith))) ∙ coming_skipped (i + 1) c s ∙ ap (λ t. coming w m p N t c 0) e

  -- a digit that is not 0, and the zeros after it
  coming_digit : (i c c' : ℕ) (z : ℤ) → 0 < w → i < p → z ≢ pos 0 → Turn w m N i (remaining N i c 0) c' (w - 1) z
      → coming w m p N i c 0 ≡ (i, z) ∷ coming w m p N (i + w) c' 0
  coming_digit i c c' z h l n t =
      let k : i + 1 + (w - 1) ≡ i + w = omega arith in
      ap (found i) (turned i c 0 c' (w - 1) z l t) ∙ found_digit i z (fractional_from w m (p - (i + 1)) (remaining N (i + 1) c' (w - 1))) n
      ∙ ap (λ t. (i, z) ∷ t) (coming_skipped (i + 1) c' (w - 1) ∙ ap (λ t. coming w m p N t c' 0) k)

-- ---- zeros that are passed
pass_zeros : (w m p N k i c : ℕ) → c ≤ 1 → (N / 2 ^ i + c) % 2 ^ k ≡ 0
    → (coming w m p N i c 0 ≡ coming w m p N (i + k) c 0) × (N / 2 ^ (i + k) + c ≡ (N / 2 ^ i + c) / 2 ^ k)
pass_zeros w m p N zero i c small e = (ap (λ t. coming w m p N t c 0) (sym (add-zero i)), ap (λ t. N / 2 ^ t + c) (add-zero i) ∙ sym (div-one (N / 2 ^ i + c)))
pass_zeros w m p N (suc k) i c small e =
    let X = N / 2 ^ i in
    let f : (X + c) % 2 ^ suc k ≡ ((X + c) / 2 % 2 ^ k) * 2 + (X + c) % 2 = ap (λ t. (X + c) % 2 ^ t) (sym (add-one k)) ∙ mod-pow-add (X + c) k 1 in
    let even : (X + c) % 2 ≡ 0 = omega arith in
    let rest : (X + c) / 2 % 2 ^ k ≡ 0 = omega arith in
    let next : N / 2 ^ (i + 1) + c ≡ (X + c) / 2 = ap (λ t. t + c) (sym (shr-shr N i 1)) ∙ omega arith in
    let (s, q) = pass_zeros w m p N k (i + 1) c small (ap (λ t. t % 2 ^ k) next ∙ rest) in
    let at : i + 1 + k ≡ i + suc k = omega arith in
    let div : (X + c) / 2 / 2 ^ k ≡ (X + c) / 2 ^ suc k = shr-shr (X + c) 1 k ∙ ap (λ t. (X + c) / 2 ^ t) (omega arith) in (
      coming_pass w m p N i c 0 c 0 (turn_even w m N i c small even) ∙ s ∙ ap (λ t. coming w m p N t c 0) at,
      ap (λ t. N / 2 ^ t + c) (sym at) ∙ q ∙ ap (λ t. t / 2 ^ k) next ∙ div,
    )

-- ---- the digit, by y, which agrees with what remains in its low M + w bits, at least w + 1 of them
pub record Took (w m N i c M : ℕ) (digit : ℤ) (carry next : ℕ) : Type 0 where
  pub turn : Turn w m N i (remaining N i c 0) carry (w - 1) digit
  pub some : digit ≢ pos 0
  pub agrees : next % 2 ^ M ≡ (N / 2 ^ (i + w) + carry) % 2 ^ M

module _ (w m N i c y M : ℕ) (set : Between w m) (one : c ≤ 1) (more : 1 ≤ M) (same : y % 2 ^ (M + w) ≡ (N / 2 ^ i + c) % 2 ^ (M + w)) (odd : y % 2 ≡ 1) where
  abbrev R : ℕ
  R = N / 2 ^ i + c

  span : 2 ^ w ≡ 2 * 2 ^ (w - 1)
  span = pow_pred w (omega (arith, set.wide))

  twice : (Q : ℕ) → Q * 2 ^ w ≡ 2 * (Q * 2 ^ (w - 1))
  twice Q = ap (λ t. Q * t) span ∙ omega arith

  under_span : m < 2 ^ w
  under_span = omega (arith, set.most, pow_pos w)

  below_nought : (s : ℕ) → pos 0 -ℤ pos s ≡ pos 0 → s ≡ 0
  below_nought s e = sym (ap nat_abs (sub_zero_same (pos 0) (pos s) e))

  plus_is : (W Z s : ℕ) → R ≡ Z * W + s → pos R ≡ pos W *ℤ pos Z +ℤ pos s
  plus_is W Z s e = ap pos (omega arith)

  minus_is : (X W Z s : ℕ) → X + s ≡ Z * W → pos X ≡ pos W *ℤ pos Z +ℤ (pos 0 -ℤ pos s)
  minus_is X W Z s e = rw (minus s) (simp diffs (omega ring))

  pub took : (digit : ℤ) (carry next : ℕ) → Takes w m y digit carry next → Took w m N i c M digit carry next
  took digit carry next t = go (ℕ_discrete carry 0)
    where
      s : ℕ
      s = t.size

      is : digit ≡ fractional_digit w m R
      is = t.digit_is ∙ digit_by w m y R (same_low y R (M + w) (w + 1) (omega arith) same)

      go : Dec (carry ≡ 0) → Took w m N i c M digit carry next
      go (yes z) =
          let (d, e) = t.plus z in
          let fits : s < 2 ^ w = omega (arith, t.small, under_span) in
          let Z = R / 2 ^ w in
          let low_is : R % 2 ^ w ≡ s = sym (same_low y R (M + w) w (omega arith) same) ∙ ap (λ t. t % 2 ^ w) e ∙ low next w fits in
          let R_is : R ≡ Z * 2 ^ w + s = omega (arith, split R w) in
          let o : s % 2 ≡ 1 = omega (arith, twice next) in
          let Z_is : Z ≡ N / 2 ^ (i + w) + 0 = above_plus w m N i c set one Z s R_is (omega arith) t.small in
          rw z
          (record {
            turn = turn_digit w m N i c set one 0 Z digit Z_is is (plus_is (2 ^ w) Z s R_is ∙ ap (λ t. pos (2 ^ w) *ℤ pos Z +ℤ t) (sym d));
            some = λ n. omega (arith, ap nat_abs (sym d ∙ n));
            agrees = ap (λ t. t % 2 ^ M) (sym (ap (λ t. t / 2 ^ w) e ∙ high next w fits)) ∙ same_high y R M w same ∙ ap (λ t. t % 2 ^ M) Z_is;
          })
      go (no n) =
          let z : carry ≡ 1 = omega (arith, t.one) in
          let (d, e) = t.minus z in
          let Z = (R + s) / 2 ^ w in
          let both = same_more y R s (M + w) same in
          let none : next * 2 ^ w ≡ next * 2 ^ w + 0 = omega arith in
          let low_is : (R + s) % 2 ^ w ≡ 0 = sym (same_low (y + s) (R + s) (M + w) w (omega arith) both) ∙ ap (λ t. t % 2 ^ w) (e ∙ none) ∙ low next w (pow_pos w) in
          let R_is : R + s ≡ Z * 2 ^ w = omega (arith, split (R + s) w) in
          let o : s % 2 ≡ 1 = omega (arith, twice next) in
          let Z_is : Z ≡ N / 2 ^ (i + w) + 1 = above_minus w m N i c set one Z s R_is (omega arith) t.small in
          rw z
          (record {
            turn = turn_digit w m N i c set one 1 Z digit Z_is is (minus_is R (2 ^ w) Z s R_is ∙ ap (λ t. pos (2 ^ w) *ℤ pos Z +ℤ t) (sym d));
            some = λ n. omega (arith, below_nought s (sym d ∙ n));
            agrees = ap (λ t. t % 2 ^ M) (sym (ap (λ t. t / 2 ^ w) (e ∙ none) ∙ high next w (pow_pos w))) ∙ same_high (y + s) (R + s) M w both ∙ ap (λ t. t % 2 ^ M) Z_is;
          })

-- ---- the digit, as a byte keeps it
kept : {w m y : ℕ} {digit : ℤ} {carry next : ℕ} → m < 128 → Takes w m y digit carry next → to_z w8 (of_z w8 digit) ≡ digit
kept {digit = digit} {carry = carry} few t = to_z-of_z (go (ℕ_discrete carry 0))
  where
    go : Dec (carry ≡ 0) → SFits w8 digit
    go (yes z) = rw (t.plus z).0 (record { sfits = omega (arith, t.small) })
    go (no n) =
        let l : t.size < 128 = omega (arith, t.small) in
        rw (t.minus (omega (arith, t.one))).0 (subst (λ z. SFits w8 (pos 0 -ℤ z)) (plain_is w8 t.size l) (negated_fits w8 t.size l))

-- ---- what a stretch tells: x agrees with what remains at place i, as far as the stretch goes
-- at its start
pub ready_start : {w m N bits from c r end : ℕ} → Pair w m → bits ≤ 8 * most_bytes → c ≤ 1 → r ≡ N / 2 ^ from % 2 ^ 56 → from < end → end ≤ bits + 1 → end + w ≤ from + 56
    → Ready w m N bits from c (r + c) end
ready_start {w} {m} {N} {bits} {from} {c} {r} {end} pair few small e more ends room =
    let X = N / 2 ^ from in
    let under_56 : X % 2 ^ 56 < 2 ^ 56 = mod-lt X (pow_pos 56) in
    let low_bits : r % 2 ^ 56 ≡ X % 2 ^ 56 = ap (λ t. t % 2 ^ 56) e ∙ mod-eq_of_lt under_56 in
    record {
      pair = pair;
      few = few;
      small = small;
      fits = omega arith;
      ends = ends;
      within = omega arith;
      room = room;
      agrees = λ h. same_more r X c (end + w - from) (same_low r X 56 (end + w - from) (omega arith) low_bits);
    }

module _ {w m N bits i c x end : ℕ} (g : Ready w m N bits i c x end) where
  -- no digit starts up to its end
  pub ready_past : {from : ℕ} → end ≤ i + count_trailing_zeros 64 x → (i < end → from ≡ end) → (end ≤ i → from ≡ i) → coming w m (bits + 1) N i c 0 ≡ coming w m (bits + 1) N from c 0
  ready_past {from} l on at = go (dec_lt i end)
    where
      go : Dec (i < end) → coming w m (bits + 1) N i c 0 ≡ coming w m (bits + 1) N from c 0
      go (yes h) =
          let k = end - i in
          let there : i + k ≡ from = omega (arith, on h) in
          let none : x % 2 ^ k ≡ 0 = zeros_low 64 k x (omega arith) in
          (pass_zeros w m (bits + 1) N k i c g.small (sym (same_low x (N / 2 ^ i + c) (end + w - i) k (omega arith) (g.agrees h)) ∙ none)).0
          ∙ ap (λ t. coming w m (bits + 1) N t c 0) there
      go (no h) = ap (λ t. coming w m (bits + 1) N t c 0) (sym (at (omega arith)))

  -- one starts there, over the zeros
  module _ (l : i + count_trailing_zeros 64 x < end) where
    abbrev zeros : ℕ
    zeros = count_trailing_zeros 64 x

    abbrev at : ℕ
    at = i + zeros

    abbrev y : ℕ
    y = x / 2 ^ zeros

    abbrev left : ℕ
    left = end - at

    of : Between w m
    of = g.pair.between

    few : m < 128
    few = pair_small g.pair

    agreed : x % 2 ^ (end + w - i) ≡ (N / 2 ^ i + c) % 2 ^ (end + w - i)
    agreed = g.agrees (omega arith)

    passed : (coming w m (bits + 1) N i c 0 ≡ coming w m (bits + 1) N at c 0) × (N / 2 ^ at + c ≡ (N / 2 ^ i + c) / 2 ^ zeros)
    passed =
        let none : x % 2 ^ zeros ≡ 0 = zeros_low 64 zeros x (omega arith) in
        pass_zeros w m (bits + 1) N zeros i c g.small (sym (same_low x (N / 2 ^ i + c) (end + w - i) zeros (omega arith) agreed) ∙ none)

    same : y % 2 ^ (left + w) ≡ (N / 2 ^ at + c) % 2 ^ (left + w)
    same =
        let k : left + w + zeros ≡ end + w - i = omega arith in
        same_high x (N / 2 ^ i + c) (left + w) zeros (rw k agreed) ∙ ap (λ t. t % 2 ^ (left + w)) (sym passed.1)

    pub ready_few : zeros < 64
    ready_few = omega (arith, g.room)

    pub ready_odd : (y % 2 ≡ 1) × (y < 2 ^ 57)
    ready_odd = (odd_over 64 x (omega (arith, g.fits)) ready_few, omega (arith, g.fits, shr_le x zeros))

    module _ {digit : ℤ} {carry next : ℕ} (takes : Takes w m y digit carry next) where
      ready_took : Took w m N at c left digit carry next
      ready_took = took w m N at c y left of g.small (omega arith) same ready_odd.0 digit carry next takes

      -- the number above a digit has fewer bits
      ready_fits : next < 2 ^ 57
      ready_fits = go (ℕ_discrete carry 0)
        where
          W : 2 * 2 ≤ 2 ^ w
          W = pow_mono {i = 2} {j = w} of.wide

          four : next * 4 ≤ next * 2 ^ w
          four = mul-le-mul_left next W

          go : Dec (carry ≡ 0) → next < 2 ^ 57
          go (yes z) = omega (arith, (takes.plus z).1, four, ready_odd.1)
          go (no n) = omega (arith, (takes.minus (omega (arith, takes.one))).1, four, ready_odd.1, takes.small, few)

      pub ready_on : Ready w m N bits (at + w) carry next end
      ready_on =
          let k : end - at ≡ end + w - (at + w) = omega arith in
          record {
            pair = g.pair;
            few = g.few;
            small = takes.one;
            fits = ready_fits;
            ends = g.ends;
            within = omega arith;
            room = omega (arith, g.room);
            agrees = λ h. rw k at ready_took.agrees;
          }

      pub ready_gives : coming w m (bits + 1) N i c 0 ≡ (at, to_z w8 (of_z w8 digit)) ∷ coming w m (bits + 1) N (at + w) carry 0
      ready_gives = rw (kept few takes) (passed.0 ∙ coming_digit w m (bits + 1) N at c carry digit (omega (arith, of.wide)) (omega (arith, g.ends)) ready_took.some ready_took.turn)

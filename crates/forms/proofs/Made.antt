-- The function `fractional_from` gives form 2 in a set on n + 1 places, so it exists, and no digit is needed above place n. Assumes nothing.
use mathlib.Core.Path.{◌≡◌, refl, ap, ◌∙◌}
use mathlib.Core.List.{List, ◌∷◌}
use Prim.Native.Nat.{ℕ, zero, suc, ◌+◌, ◌*◌, ◌-◌, ◌/◌, ◌%◌, ◌^◌, ◌<◌, ◌≤◌}
use native.Mathlib.Omega.{arith}
use native.Mathlib.Decide.{dec_le, dec_lt}
use native.Mathlib.Numerals.{add-one}
use native.Mathlib.Nat.{mod-lt, mod-le, div-eq_of_lt, mul-le-mul_right, lt_of_mul-lt-mul_left, pow-succ'}
use borrow.Author.Tests.{eq-eqb, ne_eqb, lt-ltb, le-ltb, le-leb, lt-leb}
use lib.ListN.{length}
use lib.Pow.{pow_pos, pow_mono, pow-add, split}
use lib.IntN.{ℤ, pos, nat_abs, ◌+ℤ◌, ◌-ℤ◌, ◌*ℤ◌}
use Rattle.laws.proofs.Integers.{diffs, ring, minus, abs_is, sub_is, up, dn}
use Rattle.laws.proofs.Powers.{pow_pred}
use Rattle.meaning.specs.Digits.{most_width, largest}
use Rattle.meaning.specs.Sets.{Between, Pair}
use Rattle.meaning.specs.Fractional.{SignedResidue, DigitAt, small, large, ByResidues, done, even, odd, Fractional}
use Rattle.forms.specs.Fractional.{fractional_digit, fractional_next, fractional_from}

-- ---- the digit and what remains, by cases of R
module _ (w m R : ℕ) where
  pub even_is : R % 2 ≡ 0 → (fractional_digit w m R ≡ pos 0) × (fractional_next w m R ≡ R / 2)
  unfolding fractional_digit fractional_next
  even_is e = (simp (eq-eqb _ _ e), simp (eq-eqb _ _ e))

  -- an odd R is q · 2 ^ (w + 1) and a residue in one of three parts
  module _ (o : R % 2 ≡ 1) where
    not_even : R % 2 ≡ 0 → ⊥
    not_even z = omega arith

    pub low_is : R % 2 ^ (w + 1) ≤ m → (fractional_digit w m R ≡ pos (R % 2 ^ (w + 1))) × (fractional_next w m R ≡ R / 2 ^ (w + 1) * 2 ^ w)
    unfolding fractional_digit fractional_next
    low_is l = (simp (ne_eqb _ _ not_even, le-leb _ _ l), simp (ne_eqb _ _ not_even, le-leb _ _ l))

    module _ (over : m < R % 2 ^ (w + 1)) where
      pub middle_is : R % 2 ^ (w + 1) + m < 2 ^ (w + 1)
          → (fractional_digit w m R ≡ pos (R % 2 ^ (w + 1)) -ℤ pos (2 ^ w)) × (fractional_next w m R ≡ (2 * (R / 2 ^ (w + 1)) + 1) * 2 ^ (w - 1))
      unfolding fractional_digit fractional_next
      middle_is l = (simp (ne_eqb _ _ not_even, lt-leb _ _ over, lt-ltb _ _ l), simp (ne_eqb _ _ not_even, lt-leb _ _ over, lt-ltb _ _ l))

      pub high_is : 2 ^ (w + 1) ≤ R % 2 ^ (w + 1) + m
          → (fractional_digit w m R ≡ pos (R % 2 ^ (w + 1)) -ℤ pos (2 ^ (w + 1))) × (fractional_next w m R ≡ (R / 2 ^ (w + 1) + 1) * 2 ^ w)
      unfolding fractional_digit fractional_next
      high_is l = (simp (ne_eqb _ _ not_even, lt-leb _ _ over, le-ltb _ _ l), simp (ne_eqb _ _ not_even, lt-leb _ _ over, le-ltb _ _ l))

-- and each R is one of them
data Way (w m R : ℕ) : Type 0 where
  rests : R % 2 ≡ 0 → Way w m R
  low : R % 2 ≡ 1 → R % 2 ^ (w + 1) ≤ m → Way w m R
  middle : R % 2 ≡ 1 → m < R % 2 ^ (w + 1) → R % 2 ^ (w + 1) + m < 2 ^ (w + 1) → Way w m R
  high : R % 2 ≡ 1 → m < R % 2 ^ (w + 1) → 2 ^ (w + 1) ≤ R % 2 ^ (w + 1) + m → Way w m R

way : (w m R : ℕ) → Way w m R
way w m R = go (R % 2) refl (dec_le (R % 2 ^ (w + 1)) m) (dec_lt (R % 2 ^ (w + 1) + m) (2 ^ (w + 1)))
  where
    go : (b : ℕ) → R % 2 ≡ b → Dec (R % 2 ^ (w + 1) ≤ m) → Dec (R % 2 ^ (w + 1) + m < 2 ^ (w + 1)) → Way w m R
    go zero e d f = rests e
    go (suc b) e (yes l) f = low (omega arith) l
    go (suc b) e (no l) (yes f) = middle (omega arith) (omega arith) f
    go (suc b) e (no l) (no f) = high (omega arith) (omega arith) (omega arith)

-- ---- an odd number is not an even one
pub odd_over : (r h : ℕ) → r % 2 ≡ 1 → 2 * h ≤ r → 2 * h < r
odd_over r h o l = omega arith

pub odd_under : (r h : ℕ) → r % 2 ≡ 1 → r ≤ 2 * h → r < 2 * h
odd_under r h o l = omega arith

-- ---- a difference of two naturals
far : (a b : ℕ) → nat_abs (pos a -ℤ pos b) ≡ (a - b) + (b - a)
unfolding up dn
far a b = omega (arith, abs_is (pos a -ℤ pos b), sub_is (pos a) (pos b))

-- ---- the powers about m
pub record Sizes (w m : ℕ) : Type 0 where
  pub double : 2 ^ (w + 1) ≡ 2 * 2 ^ w
  pub half : 2 ^ w ≡ 2 * 2 ^ (w - 1)
  pub quarter : 2 ^ (w - 1) ≡ 2 * 2 ^ (w - 1 - 1)
  pub some : 0 < 2 ^ (w - 1 - 1)
  pub least : 2 ^ (w - 1) ≤ m + 1
  pub most : m < 2 ^ w

pub sizes_of : (w m : ℕ) → Between w m → Sizes w m
sizes_of w m set =
    let two : 2 ≤ w = set.wide in
    record {
      double = ap (λ t. 2 ^ t) (add-one w) ∙ pow-succ' 2 w;
      half = pow_pred w (omega arith);
      quarter = pow_pred (w - 1) (omega arith);
      some = pow_pos (w - 1 - 1);
      least = omega (arith, set.least);
      most = omega (arith, set.most, pow_pos w);
    }

-- ---- the two ends of a width
module _ (w : ℕ) (two : 2 ≤ w) where
  pub halves : (2 ^ w ≡ 2 * 2 ^ (w - 1)) × (2 ^ (w - 1) ≡ 2 * 2 ^ (w - 1 - 1)) × (0 < 2 ^ (w - 1 - 1)) × (2 ^ (w + 1) ≡ 2 * 2 ^ w)
  halves = (pow_pred w (omega arith), pow_pred (w - 1) (omega arith), pow_pos (w - 1 - 1), ap (λ t. 2 ^ t) (add-one w) ∙ pow-succ' 2 w)

  -- the least largest digit of a width, and the most
  pub least_between : Between w (largest w)
  least_between = record { wide = two; odd = omega (arith, halves); least = omega arith; most = omega (arith, halves) }

  pub most_between : Between w (2 ^ w - 1)
  most_between = record { wide = two; odd = omega (arith, halves); least = omega (arith, halves); most = omega arith }

  -- the least makes a pair at every width
  pub least_pair : w ≤ most_width → Pair w (largest w)
  least_pair h = record { between = least_between; most = h; above = λ l. absurd (omega arith) }

-- ---- over variables: R = q · W + r, W = 2 · H, H = 2 · K
odd_with : (W H q r R : ℕ) → W ≡ 2 * H → q * W + r ≡ R → R % 2 ≡ 1 → r % 2 ≡ 1
odd_with W H q r R e f o = omega (arith, ap (λ t. q * t) e)

low_residue : (W q r R : ℕ) → q * W + r ≡ R → pos R ≡ pos W *ℤ pos q +ℤ pos r
low_residue W q r R e = ap pos (omega arith)

high_residue : (W q r R : ℕ) → q * W + r ≡ R → pos R ≡ pos W *ℤ pos (q + 1) +ℤ (pos r -ℤ pos W)
high_residue W q r R e = rw (minus W) (simp diffs (omega ring))

middle_residue : (W H q r R : ℕ) → W ≡ 2 * H → q * W + r ≡ R → pos R ≡ pos H *ℤ pos (2 * q + 1) +ℤ (pos r -ℤ pos H)
middle_residue W H q r R e f = rw (minus H) (simp diffs (omega (ring, ap (λ t. q * t) e)))

-- R = digit + 2 · next
even_sound : (R x : ℕ) → R % 2 ≡ 0 → x ≡ R / 2 → pos R ≡ pos 0 +ℤ pos 2 *ℤ pos x
even_sound R x e n = ap pos (omega arith)

low_sound : (W H q r R x : ℕ) → W ≡ 2 * H → q * W + r ≡ R → x ≡ q * H → pos R ≡ pos r +ℤ pos 2 *ℤ pos x
low_sound W H q r R x e f n = ap pos (omega (arith, ap (λ t. q * t) e))

middle_sound : (W H K q r R x : ℕ) → W ≡ 2 * H → H ≡ 2 * K → q * W + r ≡ R → x ≡ (2 * q + 1) * K → pos R ≡ (pos r -ℤ pos H) +ℤ pos 2 *ℤ pos x
middle_sound W H K q r R x e f g n = rw (minus H) (simp diffs (omega (ring, ap (λ t. q * t) e, ap (λ t. q * t) f)))

high_sound : (W H q r R x : ℕ) → W ≡ 2 * H → q * W + r ≡ R → x ≡ (q + 1) * H → pos R ≡ (pos r -ℤ pos W) +ℤ pos 2 *ℤ pos x
high_sound W H q r R x e f n = rw (minus W) (simp diffs (omega (ring, ap (λ t. q * t) e)))

-- a carry fits in the places that are left
room : (a p Q : ℕ) → 1 ≤ a → a ≤ suc p → Q * 2 ^ a < 2 ^ suc p → (Q + 1) * 2 ^ (a - 1) ≤ 2 ^ p
room a p Q one h l =
    let k = suc p - a in
    let e : 2 ^ suc p ≡ 2 ^ a * 2 ^ k = ap (λ t. 2 ^ t) (omega arith) ∙ pow-add 2 a k in
    let f : 2 ^ p ≡ 2 ^ k * 2 ^ (a - 1) = ap (λ t. 2 ^ t) (omega arith) ∙ pow-add 2 k (a - 1) in
    let g : Q < 2 ^ k = lt_of_mul-lt-mul_left (2 ^ a) {m = Q} {n = 2 ^ k} (omega arith) in
    rw f (mul-le-mul_right (2 ^ (a - 1)) (omega arith))

module _ (w m : ℕ) (set : Between w m) where
  sizes : Sizes w m
  sizes = sizes_of w m set

  -- ---- a place is the rule's
  module _ (R : ℕ) where
    abbrev r : ℕ
    r = R % 2 ^ (w + 1)

    abbrev q : ℕ
    q = R / 2 ^ (w + 1)

    whole : q * 2 ^ (w + 1) + r ≡ R
    whole = split R (w + 1)

    below : r < 2 ^ (w + 1)
    below = mod-lt R (pow_pos (w + 1))

    residue_odd : R % 2 ≡ 1 → r % 2 ≡ 1
    residue_odd o = odd_with (2 ^ (w + 1)) (2 ^ w) q r R sizes.double whole o

    -- the signed residue modulo 2 ^ (w + 1)
    residue_low : r < 2 ^ w → SignedResidue (w + 1) (pos R) (pos r)
    residue_low l = record { quotient = pos q; is = low_residue (2 ^ (w + 1)) q r R whole; between = omega (arith, sizes) }

    residue_high : 2 ^ w < r → SignedResidue (w + 1) (pos R) (pos r -ℤ pos (2 ^ (w + 1)))
    residue_high l =
        record {
          quotient = pos (q + 1);
          is = high_residue (2 ^ (w + 1)) q r R whole;
          between = omega (arith, sizes, below, far r (2 ^ (w + 1)));
        }

    -- and modulo 2 ^ w
    residue_middle : R % 2 ≡ 1 → m < r → r + m < 2 ^ (w + 1) → SignedResidue w (pos R) (pos r -ℤ pos (2 ^ w))
    residue_middle o l k =
        record {
          quotient = pos (2 * q + 1);
          is = middle_residue (2 ^ (w + 1)) (2 ^ w) q r R sizes.double whole;
          between = inner (2 ^ (w - 1)) (2 ^ (w - 1 - 1)) sizes.half sizes.quarter (omega (arith, sizes)) (omega (arith, sizes));
        }
      where
        inner : (K E : ℕ) → 2 ^ w ≡ 2 * K → K ≡ 2 * E → K ≤ r → r ≤ 2 ^ w + K → 2 * nat_abs (pos r -ℤ pos (2 ^ w)) < 2 ^ w
        inner K E e f l k =
            let a = odd_over r E (residue_odd o) (omega arith) in
            let b = odd_under r (3 * E) (residue_odd o) (omega arith) in
            omega (arith, far r (2 ^ w))

    digit_low : r ≤ m → DigitAt w m (pos R) (pos r)
    digit_low l = small (residue_low (omega (arith, sizes))) l

    digit_high : 2 ^ (w + 1) ≤ r + m → DigitAt w m (pos R) (pos r -ℤ pos (2 ^ (w + 1)))
    digit_high l = small (residue_high (omega (arith, sizes))) (omega (arith, below, far r (2 ^ (w + 1))))

    digit_middle : R % 2 ≡ 1 → m < r → r + m < 2 ^ (w + 1) → DigitAt w m (pos R) (pos r -ℤ pos (2 ^ w))
    digit_middle o l k = go (dec_lt r (2 ^ w))
      where
        go : Dec (r < 2 ^ w) → DigitAt w m (pos R) (pos r -ℤ pos (2 ^ w))
        go (yes h) = large (pos r) (residue_low h) l (residue_middle o l k)
        go (no h) =
            let above = odd_over r (2 ^ (w - 1)) (residue_odd o) (omega (arith, sizes)) in
            large (pos r -ℤ pos (2 ^ (w + 1))) (residue_high (omega (arith, sizes))) (omega (arith, below, far r (2 ^ (w + 1)))) (residue_middle o l k)

    abbrev x : ℕ
    x = fractional_next w m R

    -- R = digit + 2 · next
    pub sound : pos R ≡ fractional_digit w m R +ℤ pos 2 *ℤ pos x
    sound = go (way w m R)
      where
        go : Way w m R → pos R ≡ fractional_digit w m R +ℤ pos 2 *ℤ pos x
        go (rests e) = let (d, n) = even_is w m R e in rw d (even_sound R x e n)
        go (low o l) = let (d, n) = low_is w m R o l in rw d (low_sound (2 ^ (w + 1)) (2 ^ w) q r R x sizes.double whole n)
        go (middle o l k) =
            let (d, n) = middle_is w m R o l k in
            rw d (middle_sound (2 ^ (w + 1)) (2 ^ w) (2 ^ (w - 1)) q r R x sizes.double sizes.half whole n)
        go (high o l k) = let (d, n) = high_is w m R o l k in rw d (high_sound (2 ^ (w + 1)) (2 ^ w) q r R x sizes.double whole n)

    step : {ds : List ℤ} → ByResidues w m (pos x) ds → ByResidues w m (pos R) (fractional_digit w m R ∷ ds)
    step {ds} s = go (way w m R)
      where
        odds : R % 2 ≡ 1 → {d : ℤ} → fractional_digit w m R ≡ d → DigitAt w m (pos R) d → ByResidues w m (pos R) (fractional_digit w m R ∷ ds)
        odds o e D = odd {d = fractional_digit w m R} (pos (R / 2)) (pos x) (ap pos halved) (rw e D) sound s
          where
            halved : R ≡ 2 * (R / 2) + 1
            halved = omega arith

        go : Way w m R → ByResidues w m (pos R) (fractional_digit w m R ∷ ds)
        go (rests e) =
            let (d, n) = even_is w m R e in
            let h : R ≡ 2 * x = omega (arith, n) in
            rw d (even (pos x) (ap pos h) s)
        go (low o l) = odds o (low_is w m R o l).0 (digit_low l)
        go (middle o l k) = odds o (middle_is w m R o l k).0 (digit_middle o l k)
        go (high o l k) = odds o (high_is w m R o l k).0 (digit_high k)

  -- ---- places
  -- one place fewer
  shrinks : (p R : ℕ) → R ≤ 2 ^ suc p → fractional_next w m R ≤ 2 ^ p
  shrinks p R b = go (way w m R)
    where
      go : Way w m R → fractional_next w m R ≤ 2 ^ p
      go (rests e) = rw (even_is w m R e).1 (omega (arith, pow-succ' 2 p))
      go (low o l) = rw (low_is w m R o l).1 (omega (arith, whole R, ap (λ t. q R * t) sizes.double, pow-succ' 2 p))
      go (middle o l k) = rw (middle_is w m R o l k).1 (pick (dec_le w (suc p)))
        where
          pick : Dec (w ≤ suc p) → (2 * q R + 1) * 2 ^ (w - 1) ≤ 2 ^ p
          pick (yes h) = room w p (2 * q R) (omega (arith, set.wide)) h (omega (arith, whole R, ap (λ t. q R * t) sizes.double))
          pick (no h) =
              let u : 2 ^ suc p ≤ 2 ^ (w - 1) = pow_mono (omega arith) in
              let v = odd_over (r R) (2 ^ (w - 1 - 1)) (residue_odd R o) (omega (arith, sizes)) in
              absurd (omega (arith, sizes, mod-le R (2 ^ (w + 1))))
      go (high o l k) = rw (high_is w m R o l k).1 (pick (dec_le (w + 1) (suc p)))
        where
          pick : Dec (w + 1 ≤ suc p) → (q R + 1) * 2 ^ w ≤ 2 ^ p
          pick (yes h) =
              let e : w + 1 - 1 ≡ w = omega arith in
              rw e at (room (w + 1) p (q R) (omega arith) h (omega (arith, whole R)))
          pick (no h) =
              let u : 2 ^ suc p ≤ 2 ^ w = pow_mono (omega arith) in
              absurd (omega (arith, sizes, mod-le R (2 ^ (w + 1))))

  -- nothing remains after the last place
  spent : (R : ℕ) → R ≤ 1 → fractional_next w m R ≡ 0
  spent R b = go (way w m R)
    where
      go : Way w m R → fractional_next w m R ≡ 0
      go (rests e) = (even_is w m R e).1 ∙ omega arith
      go (low o l) =
          let z : q R ≡ 0 = div-eq_of_lt (omega (arith, sizes)) in
          (low_is w m R o l).1 ∙ rw z (omega arith)
      go (middle o l k) = absurd (omega (arith, sizes, mod-le R (2 ^ (w + 1))))
      go (high o l k) = absurd (omega (arith, sizes, mod-le R (2 ^ (w + 1))))

  pub from_residues : (p R : ℕ) → R ≤ 2 ^ p → ByResidues w m (pos R) (fractional_from w m (suc p) R)
  unfolding fractional_from
  from_residues zero R b = step R (done (ap pos (spent R b)))
  from_residues (suc p) R b = step R (from_residues p (fractional_next w m R) (shrinks p R b))

-- ---- the form
pub from_length : (w m p R : ℕ) → length (fractional_from w m p R) ≡ p
unfolding fractional_from
from_length w m zero R = refl
from_length w m (suc p) R = ap suc (from_length w m p (fractional_next w m R))

-- n + 1 places always suffice
pub fractional_is : (w m N n : ℕ) → Between w m → N < 2 ^ n → Fractional w m N n (fractional_from w m (n + 1) N)
fractional_is w m N n set l =
    record { length_is = from_length w m (n + 1) N; by_residues = rw (add-one n) (from_residues w m set n N (omega arith)) }

-- The string of a set between two widths: it is one only, worth its number, in its set, and its nonzeros are at least w places apart. Assumes nothing.
use mathlib.Core.Path.{◌≡◌, refl, sym, ap, ◌∙◌}
use mathlib.Core.Logic.{◌≢◌}
use mathlib.Core.List.{List, ◌∷◌}
use Prim.Native.Nat.{ℕ, zero, suc, ◌+◌, ◌*◌, ◌-◌, ◌^◌, ◌<◌, ◌≤◌}
use native.Mathlib.Omega.{arith}
use native.Mathlib.Decide.{dec_le}
use native.Mathlib.Nat.{pow-succ', suc-add}
use native.Mathlib.Numerals.{add-one}
use lib.Dec.{T}
use lib.IntN.{ℤ, pos, nat_abs, ◌+ℤ◌, ◌-ℤ◌, ◌*ℤ◌}
use lib.ListN.{length, get_or}
use lib.Pow.{pow_pos}
use Rattle.laws.proofs.Integers.{parts, diffs, ring}
use Rattle.laws.proofs.Division.{halve, same_quo, near}
use Rattle.laws.proofs.Powers.{pow_four, pow_pred}
use Rattle.laws.proofs.Choices.{and_of}
use Rattle.meaning.specs.Digits.{largest, in_set, all_in, worth, Apart}
use Rattle.forms.proofs.Naf.{odd_small}
use Rattle.forms.proofs.DigitSets.{abs_odd, odd_in}
use Rattle.forms.proofs.Strings.{Clear}
use Rattle.meaning.specs.Sets.{Between}
use Rattle.meaning.specs.Fractional.{SignedResidue, DigitAt, small, large, ByResidues, done, even, odd, Fractional}

-- ---- odd and even
pub clash : (R h X : ℤ) → R ≡ pos 2 *ℤ h +ℤ pos 1 → R ≡ pos 2 *ℤ X → ⊥
clash R h X o e = let k = simp diffs at (rw (parts h, parts X) at (sym o ∙ e)) in omega ring

-- what is left above one digit
above_same : (R d X X' : ℤ) → R ≡ d +ℤ pos 2 *ℤ X → R ≡ d +ℤ pos 2 *ℤ X' → X ≡ X'
above_same R d X X' e f =
    let k = simp diffs at (rw (parts d, parts X, parts X') at (sym e ∙ f)) in
    rw (parts X, parts X') (omega ring)

-- ---- signed residues
-- a number has one only
pub residue_same : (k : ℕ) {R r r' : ℤ} → SignedResidue k R r → SignedResidue k R r' → r ≡ r'
residue_same k {R} {r} {r'} a b =
    let e = sym a.is ∙ b.is in
    same (2 ^ k) a.quotient b.quotient (same_quo (2 ^ k) a.quotient b.quotient r r' e a.between b.between) e
  where
    same : (W : ℕ) (X X' : ℤ) → X ≡ X' → pos W *ℤ X +ℤ r ≡ pos W *ℤ X' +ℤ r' → r ≡ r'
    same W X X' q e =
        let k = simp diffs at (rw (q, parts X', parts r, parts r') at e) in
        rw (parts r, parts r') (omega ring)

-- and an odd number has one
pub residue_some : (k : ℕ) → 2 ≤ k → (R h : ℤ) → R ≡ pos 2 *ℤ h +ℤ pos 1 → (r : ℤ) × SignedResidue k R r
residue_some k two R h o =
    let n = near R (2 ^ k) (pow_pos k) in
    let (Q, four) = pow_four k two in
    (n.rem, record { quotient = n.quo; is = n.is; between = strict Q (2 ^ k) four n.quo n.rem n.is n.small })
  where
    strict : (Q W : ℕ) → W ≡ 4 * Q → (q r : ℤ) → R ≡ pos W *ℤ q +ℤ r → 2 * nat_abs r ≤ W → 2 * nat_abs r < W
    strict Q W four q r e l =
        let k = simp diffs at (rw (four, parts h, parts q, parts r) at (sym o ∙ e)) in
        let s = odd_small r (h -ℤ pos (2 * Q) *ℤ q) Q (rw (parts h, parts q, parts r) (simp diffs (omega ring))) (omega arith) in
        omega arith

-- a number less its residue modulo 2 ^ (k + 1) is a multiple of 2 ^ k
residue_multiple : (k : ℕ) {R r : ℤ} → SignedResidue (k + 1) R r → (q : ℤ) × (R ≡ pos (2 ^ k) *ℤ q +ℤ r)
residue_multiple k {R} {r} a = (pos 2 *ℤ a.quotient, a.is ∙ law (2 ^ (k + 1)) (2 ^ k) a.quotient (ap (λ t. 2 ^ t) (add-one k) ∙ pow-succ' 2 k))
  where
    law : (W H : ℕ) (q : ℤ) → W ≡ 2 * H → pos W *ℤ q +ℤ r ≡ pos H *ℤ (pos 2 *ℤ q) +ℤ r
    law W H q e = rw (e, parts q, parts r) (simp diffs (omega ring))

-- and the residue is one modulo 2 ^ k if it is small enough
pub residue_narrow : (k : ℕ) {R r : ℤ} → SignedResidue (k + 1) R r → 2 * nat_abs r < 2 ^ k → SignedResidue k R r
residue_narrow k a l = let (q, e) = residue_multiple k a in record { quotient = q; is = e; between = l }

-- ---- the digit at an odd number
-- an odd number less its digit is a multiple of 2 ^ k
abbrev pub Multiple : (w m k : ℕ) → Type 0
Multiple w m k = (R d : ℤ) → DigitAt w m R d → (q : ℤ) × (R ≡ pos (2 ^ k) *ℤ q +ℤ d)

module _ {w m : ℕ} where
  pub digit_same : {R d d' : ℤ} → DigitAt w m R d → DigitAt w m R d' → d ≡ d'
  digit_same (small a l) (small b k) = residue_same (w + 1) a b
  digit_same (small a l) (large r b k c) = absurd (omega (arith, ap nat_abs (residue_same (w + 1) a b)))
  digit_same (large r a l c) (small b k) = absurd (omega (arith, ap nat_abs (residue_same (w + 1) a b)))
  digit_same (large r a l c) (large r' b k c') = residue_same w c c'

  -- one only
  pub residues_same : {R R' : ℤ} {ds es : List ℤ} → ByResidues w m R ds → ByResidues w m R' es → R ≡ R' → length ds ≡ length es → ds ≡ es
  residues_same (done e) (done f) q l = refl
  residues_same (done e) (even X f t) q l = absurd (omega arith)
  residues_same (done e) (odd h X o D f t) q l = absurd (omega arith)
  residues_same (even X e s) (done f) q l = absurd (omega arith)
  residues_same (odd h X o D e s) (done f) q l = absurd (omega arith)
  residues_same (even X e s) (even X' f t) q l = ap (λ x. pos 0 ∷ x) (residues_same s t (halve X X' (sym e ∙ q ∙ f)) (omega arith))
  residues_same (even {R} X e s) (odd h X' o D f t) q l = absurd (clash R h X (q ∙ o) e)
  residues_same (odd {R} h X o D e s) (even X' f t) q l = absurd (clash R h X' o (q ∙ f))
  residues_same (odd {R} {d} h X o D e s) (odd {d = d'} h' X' o' D' f t) q l =
      let g : d ≡ d' = digit_same D (rw (← q) at D') in
      let k = residues_same s t (above_same R d X X' e (q ∙ f ∙ ap (λ z. z +ℤ pos 2 *ℤ X') (sym g))) (omega arith) in
      cc

  -- ---- worth
  pub residues_worth : {R : ℤ} {ds : List ℤ} → ByResidues w m R ds → worth ds ≡ R
  unfolding worth
  residues_worth (done e) = sym e
  residues_worth (even X e s) = ap (λ z. pos 0 +ℤ pos 2 *ℤ z) (residues_worth s) ∙ none X ∙ sym e
    where
      none : (X : ℤ) → pos 0 +ℤ pos 2 *ℤ X ≡ pos 2 *ℤ X
      none X = rw (parts X) (simp diffs (omega ring))
  residues_worth (odd {d = d} h X o D e s) = ap (λ z. d +ℤ pos 2 *ℤ z) (residues_worth s) ∙ sym e

  -- ---- spacing
  -- a multiple of 2 ^ k starts with k zeros
  multiple_clear : (k : ℕ) {R : ℤ} {ds : List ℤ} → ByResidues w m R ds → (Y : ℤ) → R ≡ pos (2 ^ k) *ℤ Y → Clear k ds
  multiple_clear zero s Y e j h = absurd (omega arith)
  multiple_clear (suc k) (done f) Y e j h = refl
  multiple_clear (suc k) (even X f s) Y e zero h = refl
  multiple_clear (suc k) (even X f s) Y e (suc j) h = multiple_clear k s Y (halve X (pos (2 ^ k) *ℤ Y) (sym f ∙ e ∙ rw (parts Y) (simp diffs (omega ring)))) j (omega arith)
  multiple_clear (suc k) (odd {R} g X o D f s) Y e j h = absurd (clash R g (pos (2 ^ k) *ℤ Y) o (e ∙ rw (parts Y) (simp diffs (omega ring))))

  -- where R less its digit is always a multiple of 2 ^ k, the nonzeros are k places apart
  module _ (k : ℕ) (one : 1 ≤ k) (multiple : Multiple w m k) where
    follows : {R d : ℤ} (X : ℤ) → DigitAt w m R d → R ≡ d +ℤ pos 2 *ℤ X → (q : ℤ) × (X ≡ pos (2 ^ (k - 1)) *ℤ q)
    follows {R} {d} X D e = let (q, f) = multiple R d D in (q, law (2 ^ k) (2 ^ (k - 1)) (pow_pred k one) q (sym e ∙ f))
      where
        law : (W H : ℕ) → W ≡ 2 * H → (q : ℤ) → d +ℤ pos 2 *ℤ X ≡ pos W *ℤ q +ℤ d → X ≡ pos H *ℤ q
        law W H t q e =
            let k = simp diffs at (rw (t, parts d, parts X, parts q) at e) in
            rw (parts X, parts q) (simp diffs (omega ring))

    pub residues_spaced : {R : ℤ} {ds : List ℤ} → ByResidues w m R ds → Apart k ds
    residues_spaced (done e) = record { one_of = λ i j h l n. refl }
    residues_spaced (even {ds = ds} X e s) = record { one_of = go (residues_spaced s) }
      where
        go : Apart k ds → (i j : ℕ) → i < j → j < i + k → get_or (pos 0 ∷ ds) i (pos 0) ≢ pos 0 → get_or (pos 0 ∷ ds) j (pos 0) ≡ pos 0
        go a i zero h l n = refl
        go a zero (suc j) h l n = absurd (n refl)
        go a (suc i) (suc j) h l n = a.one_of i j (omega arith) (omega (arith, suc-add i k)) n
    residues_spaced (odd {d = d} {ds} g X o D e s) = let (q, f) = follows X D e in record { one_of = go (residues_spaced s) (multiple_clear (k - 1) s q f) }
      where
        go : Apart k ds → Clear (k - 1) ds → (i j : ℕ) → i < j → j < i + k → get_or (d ∷ ds) i (pos 0) ≢ pos 0 → get_or (d ∷ ds) j (pos 0) ≡ pos 0
        go a c i zero h l n = absurd (omega arith)
        go a c zero (suc j) h l n = c j (omega arith)
        go a c (suc i) (suc j) h l n = a.one_of i j (omega arith) (omega (arith, suc-add i k)) n

-- ---- a whole set
-- the rule takes the signed residue modulo 2 ^ v
abbrev pub Takes : (w m v : ℕ) → Type 0
Takes w m v = (R h d : ℤ) → R ≡ pos 2 *ℤ h +ℤ pos 1 → SignedResidue v R d → DigitAt w m R d

-- so it does in D_w with v = w: a residue modulo 2 ^ (w + 1) that is taken is one modulo 2 ^ w
pub least_takes : (w : ℕ) → 2 ≤ w → Takes w (largest w) w
least_takes w two R h d o a = let (r, b) = residue_some (w + 1) (omega arith) R h o in go r b (dec_le (nat_abs r) (largest w))
  where
    go : (r : ℤ) → SignedResidue (w + 1) R r → Dec (nat_abs r ≤ largest w) → DigitAt w (largest w) R d
    go r b (yes l) = let e = residue_same w (residue_narrow w b (omega (arith, pow_pred w (omega arith), pow_pos (w - 1)))) a in rw (← e) (small b l)
    go r b (no l) = large r b (omega arith) a

-- ---- the set
module _ (w m : ℕ) (set : Between w m) where
  pub digit_size : (R d : ℤ) → DigitAt w m R d → nat_abs d ≤ m
  digit_size R d (small a l) = l
  digit_size R d (large r a l b) = omega (arith, set.wide, set.least, b.between, pow_pred w (omega (arith, set.wide)))

  pub residues_digits : {R : ℤ} {ds : List ℤ} → ByResidues w m R ds → T (all_in m ds)
  unfolding all_in in_set
  residues_digits (done e) = tt
  residues_digits (even X e s) = residues_digits s
  residues_digits (odd {R} {d} {ds} h X o D e s) =
      and_of (in_set m d) (all_in m ds) (odd_in m d (abs_odd d (h -ℤ X) (half h X (sym e ∙ o))) (digit_size R d D)) (residues_digits s)
    where
      half : (h X : ℤ) → d +ℤ pos 2 *ℤ X ≡ pos 2 *ℤ h +ℤ pos 1 → d ≡ pos 2 *ℤ (h -ℤ X) +ℤ pos 1
      half h X e =
          let k = simp diffs at (rw (parts d, parts h, parts X) at e) in
          rw (parts d, parts h, parts X) (simp diffs (omega ring))

  -- the spacing of w
  pub multiple : Multiple w m w
  multiple R d (small a l) = residue_multiple w a
  multiple R d (large r a l b) = (b.quotient, b.is)

  pub residues_apart : {R : ℤ} {ds : List ℤ} → ByResidues w m R ds → Apart w ds
  residues_apart s = residues_spaced w (omega (arith, set.wide)) multiple s

-- ---- the form
pub fractional_same : (w m N n : ℕ) {ds es : List ℤ} → Fractional w m N n ds → Fractional w m N n es → ds ≡ es
fractional_same w m N n a b = residues_same a.by_residues b.by_residues refl (a.length_is ∙ sym b.length_is)

pub fractional_worth : (w m N n : ℕ) {ds : List ℤ} → Fractional w m N n ds → worth ds ≡ pos N
fractional_worth w m N n a = residues_worth a.by_residues

pub fractional_digits : (w m N n : ℕ) → Between w m → {ds : List ℤ} → Fractional w m N n ds → T (all_in m ds)
fractional_digits w m N n set a = residues_digits w m set a.by_residues

pub fractional_apart : (w m N n : ℕ) → Between w m → {ds : List ℤ} → Fractional w m N n ds → Apart w ds
fractional_apart w m N n set a = residues_apart w m set a.by_residues

-- Strings whose nonzeros are at least w places apart: the digit at an odd remaining number is its signed residue, so there is one such string only; such a string is a
-- nonadjacent derivation, so none is lighter; and on n + 1 places it has at most (n + w) / w nonzeros. Assumes nothing.
use mathlib.Core.Path.{◌≡◌, refl, sym, ap, ◌∙◌}
use mathlib.Core.Logic.{◌≢◌}
use mathlib.Core.List.{List, [], ◌∷◌}
use Prim.Native.Nat.{ℕ, zero, suc, ◌+◌, ◌*◌, ◌-◌, ◌/◌, ◌^◌, ◌<◌, ◌≤◌}
use native.Mathlib.Omega.{arith}
use native.Mathlib.Nat.{le-div_iff_mul-le, pow-succ', suc-add}
use lib.ListN.{length, get_or, drop}
use lib.IntN.{ℤ, ℤ_discrete, pos, ◌+ℤ◌, ◌*ℤ◌, +ℤ_idl, +ℤ_comm}
use Rattle.laws.proofs.Integers.{parts, diffs, ring, same_left}
use Rattle.laws.proofs.Division.{halve, same_quo}
use Rattle.laws.proofs.Powers.{pow_four, pow_pred}
use Rattle.meaning.specs.Digits.{worth, weight, nonzero, Apart}
use Rattle.meaning.specs.Fractional.{SignedResidue}
use Rattle.forms.proofs.Naf.{Digit, Digits, none, gap, some, Naf, nil, even, odd, nonzero_odd}
use Rattle.forms.proofs.Unique.{unique}
use Rattle.forms.proofs.Exists.{naf}
use Rattle.forms.proofs.Built.{naf_shift}
use Rattle.forms.proofs.DigitSets.{digit_some}
use Rattle.forms.proofs.Strings.{Clear, nonzero_one, nonzero_none}

-- ---- apart
-- the places above the lowest
pub apart_tail : {w : ℕ} {d : ℤ} {ds : List ℤ} → Apart w (d ∷ ds) → Apart w ds
apart_tail {w} a = record { one_of = λ i j h l. a.one_of (suc i) (suc j) (omega arith) (omega (arith, suc-add i w)) }

-- w - 1 zeros follow a nonzero
pub apart_clear : {w : ℕ} {d : ℤ} {ds : List ℤ} → Apart w (d ∷ ds) → d ≢ pos 0 → Clear (w - 1) ds
apart_clear a n j h = a.one_of 0 (suc j) (omega arith) (omega arith) n

-- zeros at the lowest places make a multiple
clear_worth : (k : ℕ) (ds : List ℤ) → Clear k ds → (X : ℤ) × (worth ds ≡ pos (2 ^ k) *ℤ X)
unfolding worth
clear_worth zero ds c = (worth ds, let W = worth ds in rw (parts W) (simp diffs (omega ring)))
clear_worth (suc k) [] c = (pos 0, simp diffs (omega ring))
clear_worth (suc k) (d ∷ ds) c =
    let (X, e) = clear_worth k ds (λ j h. c (suc j) (omega arith)) in
    let z : d ≡ pos 0 = c 0 (omega arith) in
    (X, ap (λ t. t +ℤ pos 2 *ℤ worth ds) z ∙ ap (λ t. pos 0 +ℤ pos 2 *ℤ t) e ∙ law (2 ^ k) X ∙ ap (λ t. pos t *ℤ X) (sym (pow-succ' 2 k)))
  where
    law : (P : ℕ) (X : ℤ) → pos 0 +ℤ pos 2 *ℤ (pos P *ℤ X) ≡ pos (2 * P) *ℤ X
    law P X = rw (parts X) (simp diffs (omega ring))

module _ {w : ℕ} (two : 2 ≤ w) where
  -- the places above an odd digit are a multiple of 2 ^ (w - 1)
  odd_split : {d : ℤ} {ds : List ℤ} → Digit w d → Apart w (d ∷ ds) → (X : ℤ) × (worth ds ≡ pos (2 ^ (w - 1)) *ℤ X) × (worth (d ∷ ds) ≡ pos (2 ^ w) *ℤ X +ℤ d)
  unfolding worth
  odd_split {d} {ds} D a =
      let (X, e) = clear_worth (w - 1) ds (apart_clear a (digit_some D)) in
      (X, e, ap (λ t. d +ℤ pos 2 *ℤ t) e ∙ law (2 ^ (w - 1)) X ∙ ap (λ t. pos t *ℤ X +ℤ d) (sym (pow_pred w (omega arith))))
    where
      law : (P : ℕ) (X : ℤ) → d +ℤ pos 2 *ℤ (pos P *ℤ X) ≡ pos (2 * P) *ℤ X +ℤ d
      law P X = rw (parts d, parts X) (simp diffs (omega ring))

  -- so the digit at an odd remaining number is its signed residue
  odd_residue : {d : ℤ} {ds : List ℤ} → Digit w d → Apart w (d ∷ ds) → SignedResidue w (worth (d ∷ ds)) d
  odd_residue D a = let (X, e, f) = odd_split D a in record { quotient = X; is = f; between = D.small }

  -- ---- one only
  -- the remaining number is odd exactly where its digit is
  clash : {d : ℤ} (x y : ℤ) → Digit w d → d +ℤ pos 2 *ℤ x ≡ pos 0 +ℤ pos 2 *ℤ y → ⊥
  clash {d} x y D e =
      let h = D.half in
      let k = simp diffs at (rw (D.odd, parts h, parts x, parts y) at e) in
      omega ring

  pub apart_same : {ds es : List ℤ} → Digits w ds → Digits w es → Apart w ds → Apart w es → length ds ≡ length es → worth ds ≡ worth es → ds ≡ es
  unfolding worth
  apart_same none none a b l e = refl
  apart_same none (gap t) a b l e = absurd (omega arith)
  apart_same none (some E t) a b l e = absurd (omega arith)
  apart_same (gap s) none a b l e = absurd (omega arith)
  apart_same (some D s) none a b l e = absurd (omega arith)
  apart_same (gap {ds} s) (gap {ds = es} t) a b l e =
      ap (λ x. pos 0 ∷ x)
      (apart_same s t (apart_tail a) (apart_tail b) (omega arith)
      (halve (worth ds) (worth es) (sym (+ℤ_idl (pos 2 *ℤ worth ds)) ∙ e ∙ +ℤ_idl (pos 2 *ℤ worth es))))
  apart_same (gap {ds} s) (some {ds = es} E t) a b l e = absurd (clash (worth es) (worth ds) E (sym e))
  apart_same (some {ds = ds} D s) (gap {ds = es} t) a b l e = absurd (clash (worth ds) (worth es) D e)
  apart_same (some {d} {ds} D s) (some {d = d'} {ds = es} E t) a b l e =
      let r = odd_residue D a in
      let r' = odd_residue E b in
      let q = same_quo (2 ^ w) r.quotient r'.quotient d d' (sym r.is ∙ e ∙ r'.is) r.between r'.between in
      let f : d ≡ d' = same_left d d' (pos (2 ^ w) *ℤ r.quotient) (+ℤ_comm d (pos (2 ^ w) *ℤ r.quotient) ∙ sym r.is ∙ e ∙ r'.is ∙ ap (λ t. pos (2 ^ w) *ℤ t +ℤ d') (sym q) ∙ +ℤ_comm (pos (2 ^ w) *ℤ r.quotient) d') in
      let g = apart_same s t (apart_tail a) (apart_tail b) (omega arith) (rest d d' (worth ds) (worth es) f e) in
      cc
    where
      rest : (d d' x y : ℤ) → d ≡ d' → d +ℤ pos 2 *ℤ x ≡ d' +ℤ pos 2 *ℤ y → x ≡ y
      rest d d' x y f e =
          halve x y (same_left (pos 2 *ℤ x) (pos 2 *ℤ y) d (+ℤ_comm (pos 2 *ℤ x) d ∙ e ∙ ap (λ t. t +ℤ pos 2 *ℤ y) (sym f) ∙ +ℤ_comm d (pos 2 *ℤ y)))

  -- ---- the digit of every place, by what remains there
  pub apart_residue : {ds : List ℤ} → Digits w ds → Apart w ds → (j : ℕ) → get_or ds j (pos 0) ≢ pos 0 → SignedResidue w (worth (drop j ds)) (get_or ds j (pos 0))
  apart_residue none a j n = absurd (n refl)
  apart_residue (gap s) a zero n = absurd (n refl)
  apart_residue (gap s) a (suc j) n = apart_residue s (apart_tail a) j n
  apart_residue (some D s) a zero n = odd_residue D a
  apart_residue (some D s) a (suc j) n = apart_residue s (apart_tail a) j n

  -- ---- a derivation
  -- a power of two is taken off a nonadjacent form
  unshift : (k : ℕ) (X : ℤ) {m : ℕ} → Naf w (pos (2 ^ k) *ℤ X) m → Naf w X m
  unshift k X N =
      let (m', M) = naf w two X in
      let (Q, four) = pow_four w two in
      rw (unique w Q four N (naf_shift k X M) refl) M

  pub apart_naf : {ds : List ℤ} → Digits w ds → Apart w ds → Naf w (worth ds) (weight ds)
  unfolding worth weight nonzero
  apart_naf none a = nil refl
  apart_naf (gap {ds} s) a =
      let z : 0 + weight ds ≡ weight ds = omega arith in
      rw z (even (worth ds) (+ℤ_idl (pos 2 *ℤ worth ds)) (apart_naf s (apart_tail a)))
  apart_naf (some {d} {ds} D s) a =
      let (X, e, f) = odd_split D a in
      let z : nonzero d + weight ds ≡ suc (weight ds) = omega (arith, nonzero_odd d D.half D.odd) in
      rw z (odd X d D f (unshift (w - 1) X (rw e at (apart_naf s (apart_tail a)))))

-- ---- the bound
module _ {w : ℕ} (two : 2 ≤ w) where
  spread : (ds : List ℤ) → Apart w ds → (k : ℕ) → k < w → Clear k ds → weight ds ≢ 0 → weight ds * w + k ≤ length ds + (w - 1)
  unfolding weight
  spread [] a k h c n = absurd (n refl)
  spread (d ∷ ds) a k h c n = go (λ k. spread ds (apart_tail a) k) (ℤ_discrete d (pos 0)) k h c
    where
      rests : ((k : ℕ) → k < w → Clear k ds → weight ds ≢ 0 → weight ds * w + k ≤ length ds + (w - 1))
          → (k : ℕ) → k < w → Clear k (d ∷ ds) → weight ds ≢ 0 → weight ds * w + k ≤ suc (length ds) + (w - 1)
      rests f zero h c m = let i = f zero h (λ j l. absurd (omega arith)) m in omega arith
      rests f (suc k) h c m = let i = f k (omega arith) (λ j l. c (suc j) (omega arith)) m in omega arith

      starts : (x : ℕ) → weight ds ≡ x → (weight ds ≢ 0 → weight ds * w + (w - 1) ≤ length ds + (w - 1)) → suc (weight ds) * w + 0 ≤ suc (length ds) + (w - 1)
      starts zero e f = rw e (omega arith)
      starts (suc x) e f =
          let g = f (λ z. omega arith) in
          let i : suc (weight ds) * w ≡ w + weight ds * w = omega arith in
          omega arith

      go : ((k : ℕ) → k < w → Clear k ds → weight ds ≢ 0 → weight ds * w + k ≤ length ds + (w - 1))
          → Dec (d ≡ pos 0) → (k : ℕ) → k < w → Clear k (d ∷ ds) → (nonzero d + weight ds) * w + k ≤ suc (length ds) + (w - 1)
      go f (yes e) k h c =
          let z : nonzero d + weight ds ≡ weight ds = omega (arith, nonzero_none e) in
          rw z (rests f k h c (λ m. n (z ∙ m)))
      go f (no m) zero h c =
          let z : nonzero d + weight ds ≡ suc (weight ds) = omega (arith, nonzero_one d m) in
          rw z (starts (weight ds) refl (f (w - 1) (omega arith) (apart_clear a m)))
      go f (no m) (suc k) h c = absurd (m (c 0 (omega arith)))

  -- nonzeros at least w apart on n + 1 places: at most (n + w) / w, rounded down
  pub apart_bound : (ds : List ℤ) → Apart w ds → (n : ℕ) → length ds ≡ n + 1 → weight ds ≤ (n + w) / w
  apart_bound ds a n l = let h : 0 < w = omega arith in (le-div_iff_mul-le h).1 (go (weight ds) refl)
    where
      go : (m : ℕ) → weight ds ≡ m → weight ds * w ≤ n + w
      go zero e = rw e (omega arith)
      go (suc m) e = let i = spread ds a 0 (omega arith) (λ j h. absurd (omega arith)) (λ z. omega arith) in omega arith

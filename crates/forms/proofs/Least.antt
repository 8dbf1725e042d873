-- No finite string over a set between two widths is lighter than the set's own string of the number, whatever its length; nor is one whose digits are any numbers,
-- even or odd, of size at most m + 1. So a larger set never makes a number heavier. Assumes nothing.
use mathlib.Core.Path.{◌≡◌, refl, sym, ap, subst, ◌∙◌}
use mathlib.Core.List.{List, [], ◌∷◌}
use Prim.Native.Nat.{ℕ, zero, suc, ◌+◌, ◌*◌, ◌-◌, ◌%◌, ◌^◌, ◌<◌, ◌≤◌}
use native.Mathlib.Omega.{arith}
use native.Mathlib.Decide.{dec_le}
use native.Mathlib.Nat.{zero-add, le_refl, mul-le-mul_left, mul-le-mul_right, lt_of_mul-lt-mul_left}
use lib.Dec.{T}
use lib.IntN.{ℤ, pos, negsuc, nat_abs, ◌+ℤ◌, ◌-ℤ◌, ◌*ℤ◌, +ℤ_comm, +ℤ_idl}
use lib.ListN.{get_or}
use lib.Pow.{pow_pos, pow_mono}
use Rattle.laws.proofs.Integers.{parts, diffs, ring, abs_is, abs_add, abs_mul, abs_block, abs_zero, cancel, same_left}
use Rattle.laws.proofs.Division.{Parity, is_even, is_odd, parity, halve}
use Rattle.laws.proofs.Powers.{pow_pred, pow_times}
use Rattle.laws.proofs.Choices.{and_both}
use Rattle.meaning.specs.Digits.{largest, in_set, all_in, worth, weight, nonzero}
use Rattle.forms.proofs.Naf.{Naf, Digits, nonzero_odd}
use Rattle.forms.proofs.DigitSets.{in_size, all_in_is}
use Rattle.meaning.specs.Sets.{Between}
use Rattle.meaning.specs.Fractional.{SignedResidue, DigitAt, small, large, ByResidues, done, even, odd, Fractional}
use Rattle.forms.proofs.Fractional.{clash, least_takes, residue_some, digit_same, digit_size, multiple, residues_worth, residues_digits}
use Rattle.forms.proofs.Made.{Sizes, sizes_of, least_between}

-- ---- laws over variables
one_times : (X : ℤ) → pos 1 *ℤ X ≡ X
one_times X = rw (parts X) (simp diffs (omega ring))

-- 2 ^ suc i · X = 2 · (2 ^ i · X)
twice : (i : ℕ) (X : ℤ) → pos (2 ^ suc i) *ℤ X ≡ pos 2 *ℤ (pos (2 ^ i) *ℤ X)
twice i X = rw (parts X) (simp diffs (omega ring))

over_none : (P : ℕ) (q : ℤ) → pos P *ℤ pos 0 +ℤ q ≡ q
over_none P q = ap (λ t. pos t +ℤ q) (omega arith) ∙ +ℤ_idl q

back : (Z U : ℤ) → Z ≡ U +ℤ (Z -ℤ U)
back Z U = rw (parts Z, parts U) (simp diffs (omega ring))

-- ---- derivations
-- Y has a string by residues of weight k. Whichever residue a digit is, what is left is taken over 2 ^ w: it may be even
data Frac (w m : ℕ) : ℤ → ℕ → Type 0 where
  nil : {Y : ℤ} → Y ≡ pos 0 → Frac w m Y 0
  double : {Y : ℤ} {k : ℕ} (X : ℤ) → Y ≡ pos 2 *ℤ X → Frac w m X k → Frac w m Y k
  digit : {Y : ℤ} {k : ℕ} (h X d : ℤ) → Y ≡ pos 2 *ℤ h +ℤ pos 1 → DigitAt w m Y d → Y ≡ pos (2 ^ w) *ℤ X +ℤ d → Frac w m X k → Frac w m Y (suc k)

-- and one of weight at most k
record Least (w m : ℕ) (Y : ℤ) (k : ℕ) : Type 0 where
  pub weighs : ℕ
  pub le : weighs ≤ k
  pub frac : Frac w m Y weighs

module _ {w m : ℕ} where
  least : {Y : ℤ} {l k : ℕ} → Frac w m Y l → l ≤ k → Least w m Y k
  least {l = l} F h = record { weighs = l; le = h; frac = F }

  double↑ : {Y : ℤ} {k : ℕ} (X : ℤ) → Y ≡ pos 2 *ℤ X → Least w m X k → Least w m Y k
  double↑ X e l = least (double X e l.frac) l.le

  digit↑ : {Y : ℤ} {k : ℕ} (h X d : ℤ) → Y ≡ pos 2 *ℤ h +ℤ pos 1 → DigitAt w m Y d → Y ≡ pos (2 ^ w) *ℤ X +ℤ d → Least w m X k → Least w m Y (suc k)
  digit↑ h X d o D e l = least (digit h X d o D e l.frac) (omega (arith, l.le))

  -- ---- one weight only
  zero_weight : {X : ℤ} {k : ℕ} → Frac w m X k → X ≡ pos 0 → k ≡ 0
  zero_weight (nil e) q = refl
  zero_weight (double X₁ e F) q = zero_weight F (halve X₁ (pos 0) (sym e ∙ q))
  zero_weight (digit {Y} h X₁ d o D e F) q = absurd (clash Y h (pos 0) o q)

  frac_same : {X X' : ℤ} {k k' : ℕ} → Frac w m X k → Frac w m X' k' → X ≡ X' → k ≡ k'
  frac_same (nil e) F' q = sym (zero_weight F' (sym q ∙ e))
  frac_same (double X₁ e F) (nil e') q = zero_weight F (halve X₁ (pos 0) (sym e ∙ q ∙ e'))
  frac_same (double X₁ e F) (double X₁' e' F') q = frac_same F F' (halve X₁ X₁' (sym e ∙ q ∙ e'))
  frac_same (double {Y} X₁ e F) (digit h' X₁' d' o' D' e' F') q = absurd (clash Y h' X₁ (q ∙ o') e)
  frac_same (digit {Y} h X₁ d o D e F) (nil e') q = absurd (clash Y h (pos 0) o (q ∙ e'))
  frac_same (digit {Y} h X₁ d o D e F) (double X₁' e' F') q = absurd (clash Y h X₁' o (q ∙ e'))
  frac_same (digit h X₁ d o D e F) (digit h' X₁' d' o' D' e' F') q =
      let g : d ≡ d' = digit_same D (rw (← q) at D') in
      ap suc (frac_same F F' (cancel (2 ^ w) (pow_pos w) X₁ X₁' (same_left (pos (2 ^ w) *ℤ X₁) (pos (2 ^ w) *ℤ X₁') d (sym e ∙ q ∙ e' ∙ ap (λ t. pos (2 ^ w) *ℤ X₁' +ℤ t) (sym g)))))

  -- i zeros below
  shift : (i : ℕ) {X : ℤ} {k : ℕ} → Frac w m X k → Frac w m (pos (2 ^ i) *ℤ X) k
  shift zero {X} F = rw (one_times X) F
  shift (suc i) {X} F = double (pos (2 ^ i) *ℤ X) (twice i X) (shift i F)

-- ---- a multiple of X and a carry
-- a number of size at most m + 1 makes a multiple of X heavier by 1 at most
abbrev Main : (w m : ℕ) → ℤ → ℕ → Type 0
Main w m X k = (j : ℕ) (q : ℤ) → nat_abs q ≤ m + 1 → (Y : ℤ) → Y ≡ pos (2 ^ j) *ℤ X +ℤ q → Least w m Y (suc k)

-- the new carry is no larger
quo_small : (W m : ℕ) (e q d : ℤ) → m < W → nat_abs e ≤ m + W * m → nat_abs d ≤ m → e ≡ pos W *ℤ q +ℤ d → nat_abs q ≤ m + 1
quo_small W m e q d b l s i =
    omega (arith, lt_of_mul-lt-mul_left W {m = nat_abs q} {n = m + 2} (omega (arith, (abs_block W e q d i).1)))

-- an odd number of size at most m + 1 has size at most m
odd_size : (m : ℕ) (q g : ℤ) → m % 2 ≡ 1 → q ≡ pos 2 *ℤ g +ℤ pos 1 → nat_abs q ≤ m + 1 → nat_abs q ≤ m
odd_size m q g o e l = let k = simp diffs at (rw (parts q, parts g) at e) in omega (ring, abs_is q)

half_size : (q g : ℤ) (B : ℕ) → q ≡ pos 2 *ℤ g → nat_abs q ≤ 2 * B + 1 → nat_abs g ≤ B
half_size q g B e l = omega (arith, ap nat_abs e, abs_mul 2 g)

module _ (w m : ℕ) (set : Between w m) where
  sizes : Sizes w m
  sizes = sizes_of w m set

  some : 1 ≤ m
  some = omega (arith, set.odd)

  -- every odd number has a digit
  digit_of : (R h : ℤ) → R ≡ pos 2 *ℤ h +ℤ pos 1 → (d : ℤ) × DigitAt w m R d
  digit_of R h o = let (r, a) = residue_some (w + 1) (omega (arith, set.wide)) R h o in go r a (dec_le (nat_abs r) m)
    where
      go : (r : ℤ) → SignedResidue (w + 1) R r → Dec (nat_abs r ≤ m) → (d : ℤ) × DigitAt w m R d
      go r a (yes l) = (r, small a l)
      go r a (no l) = let (d, b) = residue_some w set.wide R h o in (d, large r a (omega arith) b)

  -- a digit of the set under a multiple of 2 ^ (w + 1) is the one that the rule takes
  own : (Y Z d : ℤ) → nat_abs d ≤ m → Y ≡ pos (2 ^ (w + 1)) *ℤ Z +ℤ d → DigitAt w m Y d
  own Y Z d l e = small (record { quotient = Z; is = e; between = omega (arith, sizes) }) l

  -- a carry alone
  alone : (n : ℕ) (q : ℤ) → nat_abs q ≤ n → nat_abs q ≤ m + 1 → Parity q → Least w m q 1
  alone zero q b l P = least (nil (abs_zero q b)) (omega arith)
  alone (suc n) q b l (is_even g e) =
      double↑ g e (alone n g (omega (arith, ap nat_abs e, abs_mul 2 g)) (half_size q g (m + 1) e (omega arith)) (parity g))
  alone (suc n) q b l (is_odd g e) =
      least (digit g (pos 0) q e (own q (pos 0) q (odd_size m q g set.odd e l) (sym (over_none (2 ^ (w + 1)) q))) (sym (over_none (2 ^ w) q)) (nil refl)) (omega arith)

  -- an odd number: its digit anew, and a carry
  step : (j : ℕ) (X e Y h : ℤ) {k : ℕ} → Main w m X k → nat_abs e ≤ m + 2 ^ w * m → Y ≡ pos (2 ^ w) *ℤ (pos (2 ^ j) *ℤ X) +ℤ e → Y ≡ pos 2 *ℤ h +ℤ pos 1 → Least w m Y (suc (suc k))
  step j X e Y h next l y o =
      let (d, D) = digit_of Y h o in
      let (Z, z) = multiple w m set Y d D in
      let U = pos (2 ^ j) *ℤ X in
      digit↑ h Z d o D z
      (next j (Z -ℤ U) (quo_small (2 ^ w) m e (Z -ℤ U) d sizes.most l (digit_size w m set Y d D) (left (2 ^ w) Z U d (sym y ∙ z))) Z (back Z U))
    where
      left : (W : ℕ) (Z U d : ℤ) → pos W *ℤ U +ℤ e ≡ pos W *ℤ Z +ℤ d → e ≡ pos W *ℤ (Z -ℤ U) +ℤ d
      left W Z U d i =
          let k = simp diffs at (rw (parts Z, parts U, parts d, parts e) at i) in
          rw (parts Z, parts U, parts d, parts e) (simp diffs (omega ring))

  -- over an odd number X = 2 ^ w · X₁ + r
  module _ (X h X₁ r : ℤ) (k : ℕ) (o : X ≡ pos 2 *ℤ h +ℤ pos 1) (size : nat_abs r ≤ m) (x : X ≡ pos (2 ^ w) *ℤ X₁ +ℤ r) (F : Frac w m X (suc k)) (next : Main w m X₁ k) where
    -- an odd sum: X and the carry give a new digit and a new carry over X₁
    refresh : (j : ℕ) (q g Y : ℤ) → 2 ^ j * m + nat_abs q ≤ m + 2 ^ w * m → Y ≡ pos (2 ^ j) *ℤ X +ℤ q → Y ≡ pos 2 *ℤ g +ℤ pos 1 → Least w m Y (suc (suc k))
    refresh j q g Y l y p =
        step j X₁ (pos (2 ^ j) *ℤ r +ℤ q) Y g next
        (omega (arith, abs_add (pos (2 ^ j) *ℤ r) q, abs_mul (2 ^ j) r, mul-le-mul_left (2 ^ j) size))
        (y ∙ law (2 ^ w) (2 ^ j) x) p
      where
        law : (W P : ℕ) → X ≡ pos W *ℤ X₁ +ℤ r → pos P *ℤ X +ℤ q ≡ pos W *ℤ (pos P *ℤ X₁) +ℤ (pos P *ℤ r +ℤ q)
        law W P i = rw (i, parts X₁, parts r, parts q) (simp diffs (omega ring))

    -- an odd carry at its place: the sum is even, and its half is over X₁
    merge : (q g Y : ℤ) → nat_abs q ≤ m + 1 → q ≡ pos 2 *ℤ g +ℤ pos 1 → Y ≡ X +ℤ q → Least w m Y (suc (suc k))
    merge q g Y l e y =
        let Z = h +ℤ g +ℤ pos 1 in
        let U = pos (2 ^ (w - 1)) *ℤ X₁ in
        let b = half_size (r +ℤ q) (Z -ℤ U) m (law (2 ^ w) (2 ^ (w - 1)) sizes.half x) (omega (arith, abs_add r q)) in
        let n = next (w - 1) (Z -ℤ U) (omega arith) Z (back Z U) in
        least (double Z (rw (y, o, e, parts h, parts g) (simp diffs (omega ring))) n.frac) (omega (arith, n.le))
      where
        law : (W K : ℕ) → W ≡ 2 * K → X ≡ pos W *ℤ X₁ +ℤ r → r +ℤ q ≡ pos 2 *ℤ ((h +ℤ g +ℤ pos 1) -ℤ pos K *ℤ X₁)
        law W K t i =
            let k = simp diffs at (rw (t, parts h, parts X₁, parts r) at (sym o ∙ i)) in
            rw (e, parts h, parts g, parts X₁, parts r) (simp diffs (omega ring))

    -- an odd carry below its place: near, or so far that it is a digit as it is
    below : (j : ℕ) (q g Y : ℤ) → nat_abs q ≤ m → q ≡ pos 2 *ℤ g +ℤ pos 1 → Y ≡ pos (2 ^ suc j) *ℤ X +ℤ q → Dec (suc j ≤ w) → Least w m Y (suc (suc k))
    below j q g Y l e y (yes near) =
        refresh (suc j) q (pos (2 ^ j) *ℤ X +ℤ g) Y
        (omega (arith, mul-le-mul_right m (pow_mono near)))
        y (rw (y, e, parts X, parts g) (simp diffs (omega ring)))
    below j q g Y l e y (no far) =
        let i = j - w in
        let a : suc j ≡ w + 1 + i = omega arith in
        let b : suc j ≡ w + suc i = omega arith in
        let s = y ∙ ap (λ t. pos (2 ^ t) *ℤ X +ℤ q) a ∙ ap (λ t. t +ℤ q) (pow_times (w + 1) i X) in
        let t = y ∙ ap (λ t. pos (2 ^ t) *ℤ X +ℤ q) b ∙ ap (λ t. t +ℤ q) (pow_times w (suc i) X) in
        least
        (digit (pos (2 ^ j) *ℤ X +ℤ g) (pos (2 ^ suc i) *ℤ X) q (rw (y, e, parts X, parts g) (simp diffs (omega ring))) (own Y (pos (2 ^ i) *ℤ X) q l s) t (shift (suc i) F))
        (omega arith)

    over_odd : (j : ℕ) (q : ℤ) → nat_abs q ≤ m + 1 → Parity q → (Y : ℤ) → Y ≡ pos (2 ^ j) *ℤ X +ℤ q → Least w m Y (suc (suc k))
    over_odd zero q l (is_even g e) Y y =
        let four : 4 ≤ 2 ^ w = omega (arith, sizes) in
        refresh 0 q (h +ℤ g) Y (omega (arith, some, mul-le-mul_right m four)) y (y ∙ rw (o, e, parts h, parts g) (simp diffs (omega ring)))
    over_odd zero q l (is_odd g e) Y y = merge q g Y l e (y ∙ ap (λ t. t +ℤ q) (one_times X))
    over_odd (suc j) q l (is_even g e) Y y =
        let Z = pos (2 ^ j) *ℤ X +ℤ g in
        double↑ Z (rw (y, e, parts X, parts g) (simp diffs (omega ring))) (over_odd j g (half_size q g (m + 1) e (omega arith)) (parity g) Z refl)
    over_odd (suc j) q l (is_odd g e) Y y = below j q g Y (odd_size m q g set.odd e l) e y (dec_le (suc j) w)

  main : {X : ℤ} {k : ℕ} → Frac w m X k → Main w m X k
  main (nil e) j q l Y y = rw (y ∙ ap (λ t. pos (2 ^ j) *ℤ t +ℤ q) e ∙ over_none (2 ^ j) q) (alone (nat_abs q) q (le_refl (nat_abs q)) l (parity q))
  main (double X₁ e F) j q l Y y = main F (suc j) q l Y (rw (y, e, parts X₁, parts q) (simp diffs (omega ring)))
  main (digit {Y = X} {k} h X₁ r o D e F) j q l Y y =
      over_odd X h X₁ r k o (digit_size w m set X r D) e (digit h X₁ r o D e F) (main F) j q l (parity q) Y y

  -- ---- strings
  -- a string by residues is a derivation of its weight
  residues_frac : {R : ℤ} {ds : List ℤ} → ByResidues w m R ds → (t : ℕ) (Y : ℤ) → R ≡ pos (2 ^ t) *ℤ Y → Frac w m Y (weight ds)
  unfolding weight nonzero
  residues_frac (done e) t Y y = nil (cancel (2 ^ t) (pow_pos t) Y (pos 0) (sym y ∙ e ∙ ap pos (omega arith)))
  residues_frac (even X e s) zero Y y = rw zero-add (double X (sym (y ∙ one_times Y) ∙ e) (residues_frac s 0 X (sym (one_times X))))
  residues_frac (even X e s) (suc t) Y y = rw zero-add (residues_frac s t Y (halve X (pos (2 ^ t) *ℤ Y) (sym e ∙ y ∙ twice t Y)))
  residues_frac (odd {R} h X o D e s) (suc t) Y y = absurd (clash R h (pos (2 ^ t) *ℤ Y) o (y ∙ twice t Y))
  residues_frac (odd {R} {d} {ds} h X o D e s) zero Y y =
      let (q, f) = multiple w m set R d D in
      let F = digit h q d o D f (residues_frac s (w - 1) q (half (2 ^ w) (2 ^ (w - 1)) sizes.half q (sym e ∙ f))) in
      let z : nonzero d + weight ds ≡ suc (weight ds) = omega (arith, nonzero_odd d (h -ℤ X) (left h (sym e ∙ o))) in
      rw z (subst (λ t. Frac w m t (suc (weight ds))) (y ∙ one_times Y) F)
    where
      left : (h : ℤ) → d +ℤ pos 2 *ℤ X ≡ pos 2 *ℤ h +ℤ pos 1 → d ≡ pos 2 *ℤ (h -ℤ X) +ℤ pos 1
      left h i =
          let k = simp diffs at (rw (parts d, parts h, parts X) at i) in
          rw (parts d, parts h, parts X) (simp diffs (omega ring))

      half : (W K : ℕ) → W ≡ 2 * K → (q : ℤ) → d +ℤ pos 2 *ℤ X ≡ pos W *ℤ q +ℤ d → X ≡ pos K *ℤ q
      half W K t q i =
          let k = simp diffs at (rw (t, parts d, parts X, parts q) at i) in
          rw (parts X, parts q) (simp diffs (omega ring))

  -- and no string of digits of size at most m + 1 is lighter than the derivation of its worth
  carried : (e X : ℤ) {k : ℕ} → nat_abs e ≤ m + 1 → Least w m X k → Least w m (e +ℤ pos 2 *ℤ X) (suc k)
  carried e X b l =
      let c = main l.frac 1 e b (e +ℤ pos 2 *ℤ X) (+ℤ_comm e (pos 2 *ℤ X)) in
      least c.frac (omega (arith, c.le, l.le))

  prepend : (e X : ℤ) {k : ℕ} → nat_abs e ≤ m + 1 → Least w m X k → Least w m (e +ℤ pos 2 *ℤ X) (nonzero e + k)
  unfolding nonzero
  prepend (pos zero) X b l = rw zero-add (double↑ X (+ℤ_idl (pos 2 *ℤ X)) l)
  prepend (pos (suc n)) X {k} b l = let z : 1 + k ≡ suc k = omega arith in rw z (carried (pos (suc n)) X b l)
  prepend (negsuc n) X {k} b l = let z : 1 + k ≡ suc k = omega arith in rw z (carried (negsuc n) X b l)

  least_weight : (es : List ℤ) → ((i : ℕ) → nat_abs (get_or es i (pos 0)) ≤ m + 1) → Least w m (worth es) (weight es)
  unfolding worth weight
  least_weight [] f = least (nil refl) (omega arith)
  least_weight (e ∷ es) f = prepend e (worth es) (f 0) (least_weight es (λ i. f (suc i)))

-- ---- the digits of a set
all_size : (m : ℕ) (es : List ℤ) → T (all_in m es) → (i : ℕ) → nat_abs (get_or es i (pos 0)) ≤ m
unfolding all_in
all_size m [] t i = omega arith
all_size m (e ∷ es) t zero = in_size m e (and_both (in_set m e) (all_in m es) t).0
all_size m (e ∷ es) t (suc i) = all_size m es (and_both (in_set m e) (all_in m es) t).1 i

-- ---- the nonadjacent form of width w
-- is a derivation in D_w
naf_frac : (w : ℕ) → 2 ≤ w → {X : ℤ} {k : ℕ} → Naf w X k → Frac w (largest w) X k
naf_frac w two (Naf.nil e) = nil e
naf_frac w two (Naf.even X e N) = double X e (naf_frac w two N)
naf_frac w two (Naf.odd {Y} X r D e N) =
    let h = pos (2 ^ (w - 1)) *ℤ X +ℤ D.half in
    let o = odd_half (2 ^ w) (2 ^ (w - 1)) (pow_pred w (omega arith)) D.half D.odd e in
    digit h X r o (least_takes w two Y h r o (record { quotient = X; is = e; between = D.small })) e (naf_frac w two N)
  where
    odd_half : (W H : ℕ) → W ≡ 2 * H → (g : ℤ) → r ≡ pos 2 *ℤ g +ℤ pos 1 → Y ≡ pos W *ℤ X +ℤ r → Y ≡ pos 2 *ℤ (pos H *ℤ X +ℤ g) +ℤ pos 1
    odd_half W H t g o e = rw (e, o, t, parts X, parts g) (simp diffs (omega ring))

-- so no string of w-digits is lighter
pub naf_least : (w : ℕ) → 2 ≤ w → {X : ℤ} {k : ℕ} → Naf w X k → {es : List ℤ} → Digits w es → worth es ≡ X → k ≤ weight es
naf_least w two N {es} s e =
    let l = least_weight w (largest w) (least_between w two) es (λ i. omega (arith, all_size (largest w) es (all_in_is w (omega arith) s) i)) in
    omega (arith, l.le, frac_same (naf_frac w two N) l.frac (sym e))

-- ---- the form
-- no string of digits of size at most m + 1, even or odd, of any length, that is worth the number is lighter
pub fractional_lightest : (w m N n : ℕ) → Between w m → {ds : List ℤ} → Fractional w m N n ds
    → (es : List ℤ) → ((i : ℕ) → nat_abs (get_or es i (pos 0)) ≤ m + 1) → worth es ≡ pos N → weight ds ≤ weight es
fractional_lightest w m N n set a es f e =
    let l = least_weight w m set es f in
    let F = residues_frac w m set a.by_residues 0 (pos N) (sym (one_times (pos N))) in
    omega (arith, l.le, frac_same F l.frac (sym e))

-- so none over the set is
pub fractional_least : (w m N n : ℕ) → Between w m → {ds : List ℤ} → Fractional w m N n ds → (es : List ℤ) → T (all_in m es) → worth es ≡ pos N → weight ds ≤ weight es
fractional_least w m N n set a es t e = fractional_lightest w m N n set a es (λ i. omega (arith, all_size m es t i)) e

-- and a larger set, of this width or another, makes no number heavier
pub fractional_lighter : (w m v k N n p : ℕ) → Between w m → Between v k → m ≤ k → {ds es : List ℤ} → Fractional w m N n ds → Fractional v k N p es → weight es ≤ weight ds
fractional_lighter w m v k N n p set larger h {ds} a b =
    fractional_lightest v k N p larger b ds (λ i. omega (arith, all_size m ds (residues_digits w m set a.by_residues) i)) (residues_worth a.by_residues)

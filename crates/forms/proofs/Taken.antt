-- The string of the closest form, both tie rules at once: the remaining number shrinks, no two steps use one place (lemma 2 of the paper), the string is worth R,
-- lies in D_w, is built with falling nonadjacent weights, and is the only one of its length. Assumes nothing.
use mathlib.Core.Path.{◌≡◌, refl, sym, ap, ◌∙◌, subst}
use mathlib.Core.Logic.{◌≢◌}
use mathlib.Core.List.{List}
use Prim.Native.Nat.{ℕ, zero, suc, ◌*◌, ◌-◌, ◌^◌, ◌<◌, ◌≤◌}
use native.Mathlib.Omega.{arith}
use native.Mathlib.Decide.{dec_le}
use native.Mathlib.Nat.{mul-le-mul_left}
use lib.ListN.{length, get_or, replicate, length-set, length-replicate}
use lib.Seq.{get_or-set_other}
use lib.Dec.{T}
use lib.Pow.{pow_pos, pow-lt}
use lib.IntN.{ℤ, pos, nat_abs, ◌-ℤ◌, ◌*ℤ◌}
use Rattle.laws.proofs.Integers.{parts, diffs, ring, abs_mul, abs_zero, abs_pos, cancel}
use Rattle.laws.proofs.Powers.{pow_times}
use Rattle.meaning.specs.Digits.{worth, all_in, largest}
use Rattle.meaning.specs.Closest.{Tie, IsClosest, Takes, done, take}
use Rattle.forms.proofs.Naf.{Digit}
use Rattle.forms.proofs.DigitSets.{digit_of, all_in_is}
use Rattle.forms.proofs.Built.{Built, blank, put, built_worth, built_digits}
use Rattle.forms.proofs.Wmof.{zero_at}
use Rattle.forms.proofs.Nearest.{candidate, sides, sgn, sgn_digit, sgn_near, sgn_far, nearest_round, nearest_drop, scale, self_zero, self_candidate, closest_unique}

-- ---- one step
module _ {tie : Tie} {w : ℕ} (two : 2 ≤ w) {R c : ℤ} (some : R ≢ pos 0) (C : IsClosest tie w R c) where
  -- the remaining number shrinks: 1 and -1 are candidates
  pub shrinks : nat_abs (R -ℤ c) < nat_abs R
  shrinks =
      let one = candidate w (omega arith) 0 (sgn R) (sgn_digit w two R) refl in
      omega (arith, C.nearest (pos 1 *ℤ sgn R) one, sgn_near R 1 (abs_pos R some))

  -- a candidate is no longer than the power of two over R
  within : (j : ℕ) → nat_abs R ≤ 2 ^ j → nat_abs c ≤ 2 ^ j
  within j l =
      let power = candidate w (omega arith) j (sgn R) (sgn_digit w two R) refl in
      omega (arith, C.nearest (pos (2 ^ j) *ℤ sgn R) power, sgn_far R (2 ^ j), sides R c)

-- the place of a digit under such a power
place_within : (p j : ℕ) (u : ℤ) → 0 < nat_abs u → nat_abs (pos (2 ^ p) *ℤ u) ≤ 2 ^ j → p ≤ j
place_within p j u h l = go (dec_le p j)
  where
    go : Dec (p ≤ j) → p ≤ j
    go (yes k) = k
    go (no k) = absurd (omega (arith, abs_mul (2 ^ p) u, mul-le-mul_left (2 ^ p) h, pow-lt {i = j} {j = p} (omega arith)))

-- ---- an odd digit and its place
same_above : {w : ℕ} (p e : ℕ) (u u' : ℤ) → Digit w u → pos (2 ^ p) *ℤ u ≡ pos (2 ^ p) *ℤ (pos (2 ^ e) *ℤ u') → (0 ≡ e) × (u ≡ u')
same_above p zero u u' D h = (refl, cancel (2 ^ p) (pow_pos p) u (pos 1 *ℤ u') h ∙ rw (parts u') (simp diffs (omega ring)))
same_above p (suc e) u u' D h =
    let f = sym D.odd ∙ cancel (2 ^ p) (pow_pos p) u (pos (2 ^ suc e) *ℤ u') h in
    let H = D.half in
    let z = simp diffs at (rw (parts H, parts u') at f) in
    absurd (omega ring)

-- 2 ^ q taken apart at p
raise : (p q : ℕ) (u : ℤ) → p ≤ q → pos (2 ^ q) *ℤ u ≡ pos (2 ^ p) *ℤ (pos (2 ^ (q - p)) *ℤ u)
raise p q u l = ap (λ t. pos (2 ^ t) *ℤ u) (omega arith) ∙ pow_times p (q - p) u

-- u · 2 ^ p has one u and one p
pub same_unit : {w : ℕ} (p q : ℕ) (u u' : ℤ) → Digit w u → Digit w u' → pos (2 ^ p) *ℤ u ≡ pos (2 ^ q) *ℤ u' → (p ≡ q) × (u ≡ u')
same_unit p q u u' D D' h = go (dec_le p q)
  where
    go : Dec (p ≤ q) → (p ≡ q) × (u ≡ u')
    go (yes l) = let (z, e) = same_above p (q - p) u u' D (h ∙ raise p q u' l) in (omega arith, e)
    go (no l) = let (z, e) = same_above q (p - q) u' u D' (sym h ∙ raise q p u (omega arith)) in (omega arith, sym e)

-- the place of a multiple of 2 ^ (j + 1)
place_above : {w : ℕ} (p j : ℕ) (u v : ℤ) → Digit w u → pos (2 ^ p) *ℤ u ≡ pos (2 ^ suc j) *ℤ v → j < p
place_above p j u v D e = go (dec_le p j)
  where
    go : Dec (p ≤ j) → j < p
    go (no k) = omega arith
    go (yes k) = let (z, f) = same_above p (suc j - p) u v D (e ∙ raise p (suc j) v (omega arith)) in absurd (omega arith)

-- ---- which places are used
module _ {tie : Tie} {w : ℕ} (two : 2 ≤ w) where
  -- none for 0
  takes_zero : {R : ℤ} {ds : List ℤ} → Takes tie w R ds → R ≡ pos 0 → (q : ℕ) → get_or ds q (pos 0) ≡ pos 0
  takes_zero (done L e) z q = zero_at L q
  takes_zero (take p u n i o C h s) z q = absurd (n z)

  -- none above the power of two over R
  takes_clear : (j : ℕ) {R : ℤ} {ds : List ℤ} → Takes tie w R ds → nat_abs R ≤ 2 ^ j → (q : ℕ) → j < q → get_or ds q (pos 0) ≡ pos 0
  takes_clear j (done L e) l q h = zero_at L q
  takes_clear j (take {R = R} {ds = ds} p u n i o C k s) l q h =
      let b = place_within p j u (abs_pos u o) (within two n C j l) in
      get_or-set_other ds p q u (pos 0) (omega arith) ∙ takes_clear j s (omega (arith, shrinks two n C)) q h

  -- no two steps use one place: that of a closest candidate is free in the string of what remains
  pub takes_free : {R : ℤ} {ds : List ℤ} (p : ℕ) (u : ℤ) → R ≢ pos 0 → Digit w u → IsClosest tie w R (pos (2 ^ p) *ℤ u) → Takes tie w (R -ℤ pos (2 ^ p) *ℤ u) ds → get_or ds p (pos 0) ≡ pos 0
  takes_free {R} {ds} p u n D C s = go (dec_le (2 * nat_abs R) (2 ^ w))
    where
      c : ℤ
      c = pos (2 ^ p) *ℤ u

      go : Dec (2 * nat_abs R ≤ 2 ^ w) → get_or ds p (pos 0) ≡ pos 0
      go (yes l) =
          takes_zero s (abs_zero (R -ℤ c) (omega (arith, self_zero R, C.nearest R (self_candidate w two R (abs_pos R n) l)))) p
      go (no l) =
          let (j, big, top) = scale w (2 * nat_abs R) (omega arith) in
          let (v, e, r) = nearest_round w j two R c big (omega arith) C.candidate C.nearest in
          takes_clear j s r.low p (place_above p j u v D e)

  -- ---- the string
  pub takes_built : {R : ℤ} {ds : List ℤ} → Takes tie w R ds → Built w R ds
  takes_built (done L e) = blank L e
  takes_built (take {R = R} {ds = ds} p u n i o C l s) =
      let c = pos (2 ^ p) *ℤ u in
      let D = digit_of w (omega arith) u i o in
      put {R = R} {ρ = R -ℤ c} {ds = ds} p u D l (takes_free p u n D C s) (rw (parts R, parts u) (simp diffs (omega ring)))
      (nearest_drop w two R c (abs_pos R n) C.candidate C.nearest) (takes_built s)

  -- worth R
  pub takes_worth : {R : ℤ} {ds : List ℤ} → Takes tie w R ds → worth ds ≡ R
  takes_worth s = built_worth (takes_built s)

  -- in digits of D_w
  pub takes_digits : {R : ℤ} {ds : List ℤ} → Takes tie w R ds → T (all_in (largest w) ds)
  takes_digits s = all_in_is w (omega arith) (built_digits (takes_built s))

  -- two strings of one length are one
  pub takes_same : {R R' : ℤ} {ds ds' : List ℤ} → Takes tie w R ds → Takes tie w R' ds' → R ≡ R' → length ds ≡ length ds' → ds ≡ ds'
  takes_same (done L e) (done L' e') q l = ap (λ n. replicate n (pos 0)) (sym (length-replicate L (pos 0)) ∙ l ∙ length-replicate L' (pos 0))
  takes_same (done L e) (take p u n i o C h s) q l = absurd (n (sym q ∙ e))
  takes_same (take p u n i o C h s) (done L e) q l = absurd (n (q ∙ e))
  takes_same (take {R = R} {ds = es} p u n i o C h s) (take {R = R'} {ds = es'} p' u' n' i' o' C' h' s') q l =
      let c : pos (2 ^ p) *ℤ u ≡ pos (2 ^ p') *ℤ u' = closest_unique n C (subst (λ X. IsClosest tie w X (pos (2 ^ p') *ℤ u')) (sym q) C') in
      let (a, b) = same_unit p p' u u' (digit_of w (omega arith) u i o) (digit_of w (omega arith) u' i' o') c in
      let d = takes_same s s' (cc) (sym (length-set es p u) ∙ l ∙ length-set es' p' u') in
      cc

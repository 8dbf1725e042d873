-- Two nonadjacent forms of one integer have one weight, and a part of an integer has a lower weight than the integer (`lemma_S`). Assumes nothing.
use mathlib.Core.Path.{◌≡◌, refl, sym, ap, ◌∙◌}
use Prim.Native.Nat.{ℕ, zero, suc, ◌+◌, ◌*◌, ◌^◌, ◌<◌, ◌≤◌, suc-le-suc}
use native.Mathlib.Omega.{arith}
use native.Mathlib.Decide.{dec_lt}
use native.Mathlib.Nat.{suc-add, add_assoc, le-add_left, le_dest, lt_of_mul-lt-mul_left}
use lib.Pow.{pow_pos, pow_mono, pow-add}
use lib.IntN.{ℤ, pos, nat_abs, ◌+ℤ◌, ◌-ℤ◌, ◌*ℤ◌, +ℤ_idl}
use Rattle.laws.proofs.Integers.{up, dn, parts, diffs, ring, abs, abs_mul, abs_block}
use Rattle.laws.proofs.Division.{same_quo, halve}
use Rattle.forms.proofs.Naf.{odd_small, Digit, Naf, nil, even, odd}

at_most : {A : Type 0} {j w : ℕ} → Dec (j < w) → (j < w → A) → (w ≤ j → A) → A
at_most (yes h) f g = f h
at_most (no h) f g = g (omega arith)

module _ (w Q : ℕ) (four : 2 ^ w ≡ 4 * Q) where
  -- a number with an odd digit below is no even one
  odd_half : (Y Z r : ℤ) (D : Digit w r) → Y ≡ pos (2 ^ w) *ℤ Z +ℤ r → Y ≡ pos 2 *ℤ (pos (2 * Q) *ℤ Z +ℤ D.half) +ℤ pos 1
  odd_half Y Z r D q = let h = D.half in rw (q, D.odd, four, parts Z, parts h) (simp diffs (omega ring))

  clash : (Y X Z r : ℤ) → Y ≡ pos 2 *ℤ X → Digit w r → Y ≡ pos (2 ^ w) *ℤ Z +ℤ r → ⊥
  clash Y X Z r e D q =
      let h = pos (2 * Q) *ℤ Z +ℤ D.half in
      let k = simp diffs at (rw (parts X, parts h) at (sym e ∙ odd_half Y Z r D q)) in
      omega ring

  pub zero_weight : {X : ℤ} {k : ℕ} → Naf w X k → X ≡ pos 0 → k ≡ 0
  zero_weight (nil e) q = refl
  zero_weight (even X₁ e N) q = zero_weight N (halve X₁ (pos 0) (sym e ∙ q))
  zero_weight (odd {Y} X₁ r D e N) q = absurd (clash Y (pos 0) X₁ r q D e)

  pub unique : {X X' : ℤ} {k k' : ℕ} → Naf w X k → Naf w X' k' → X ≡ X' → k ≡ k'
  unique (nil e) N' q = sym (zero_weight N' (sym q ∙ e))
  unique (even X₁ e N) (nil e') q = zero_weight N (halve X₁ (pos 0) (sym e ∙ q ∙ e'))
  unique (even X₁ e N) (even X₁' e' N') q = unique N N' (halve X₁ X₁' (sym e ∙ q ∙ e'))
  unique (even {Y} X₁ e N) (odd X₁' r' D' e' N') q = absurd (clash Y X₁ X₁' r' e D' (q ∙ e'))
  unique (odd {Y} X₁ r D e N) (nil e') q = absurd (clash Y (pos 0) X₁ r (q ∙ e') D e)
  unique (odd {Y} X₁ r D e N) (even X₁' e' N') q = absurd (clash Y X₁' X₁ r (q ∙ e') D e)
  unique (odd X₁ r D e N) (odd X₁' r' D' e' N') q =
      ap suc (unique N N' (same_quo (2 ^ w) X₁ X₁' r r' (sym e ∙ q ∙ e') D.small D'.small))

  weight_zero : {X : ℤ} {k : ℕ} → Naf w X k → k ≡ 0 → X ≡ pos 0
  weight_zero (nil e) q = e
  weight_zero (even X₁ e N) q = e ∙ ap (λ z. pos 2 *ℤ z) (weight_zero N q)
  weight_zero (odd X₁ r D e N) q = absurd (omega arith)

  pub positive : {X : ℤ} {k : ℕ} → Naf w X k → 0 < nat_abs X → 0 < k
  positive {k = zero} N h = absurd (omega (arith, ap nat_abs (weight_zero N refl)))
  positive {k = suc k} N h = omega arith

  -- the odd step within one block: the high part of ρ is none, that of X is some
  low : (j : ℕ) → j < w → (X X₁ x ρ ρ₁ r : ℤ) → X ≡ pos (2 ^ w) *ℤ X₁ +ℤ x → Digit w x → ρ ≡ pos (2 ^ w) *ℤ ρ₁ +ℤ r → Digit w r → nat_abs ρ ≤ 2 ^ j → 2 ^ (j + w) ≤ 2 * nat_abs X
      → (ρ₁ ≡ pos 0) × (0 < nat_abs X₁)
  low j h X X₁ x ρ ρ₁ r e D e' D' l big =
      let s = odd_small ρ (pos (2 * Q) *ℤ ρ₁ +ℤ D'.half) Q (odd_half ρ ρ₁ r D' e') (omega (arith, pow_mono h)) in
      let b = (abs_block (2 ^ w) X X₁ x e).0 in (
        same_quo (2 ^ w) ρ₁ (pos 0) r ρ (sym e' ∙ sym (+ℤ_idl ρ) ∙ ap (λ t. pos t +ℤ ρ) (omega arith)) D'.small (omega arith),
        lt_of_mul-lt-mul_left (2 ^ w) {m = 0} {n = nat_abs X₁} (omega (arith, D.small, pow_mono (le-add_left w j))),
      )

  -- and above it
  high : (i j : ℕ) → w + i ≡ j → (u X X₁ x ρ ρ₁ r : ℤ) → X ≡ pos (2 ^ w) *ℤ X₁ +ℤ x → Digit w x → ρ ≡ pos (2 ^ w) *ℤ ρ₁ +ℤ r → Digit w r → X ≡ pos (2 ^ suc j) *ℤ u +ℤ ρ → nat_abs ρ ≤ 2 ^ j → 2 ^ (j + w) ≤ 2 * nat_abs X
      → (X₁ ≡ pos (2 ^ suc i) *ℤ u +ℤ ρ₁) × (nat_abs ρ₁ ≤ 2 ^ i) × (2 ^ (i + w) ≤ 2 * nat_abs X₁)
  high i j a u X X₁ x ρ ρ₁ r e D e' D' q l big =
      let p₀ = ap (λ t. 2 ^ t) (sym a) ∙ pow-add 2 w i in
      let p₁ = ap (λ t. 2 ^ (t + w)) (sym a) ∙ ap (λ t. 2 ^ t) (add_assoc w i w) ∙ pow-add 2 w (i + w) in
      let ek : 2 ^ suc j ≡ 2 ^ w * (2 * 2 ^ i) = omega arith in
      let b = (abs_block (2 ^ w) X X₁ x e).0 in
      let b' = (abs_block (2 ^ w) ρ ρ₁ r e').1 in (
        same_quo (2 ^ w) X₁ (pos (2 ^ suc i) *ℤ u +ℤ ρ₁) x r
            (sym e ∙ q ∙ rw (e', ek, parts u, parts ρ₁, parts r) (simp diffs (omega ring))) D.small D'.small,
        omega (arith, lt_of_mul-lt-mul_left (2 ^ w) {m = 2 * nat_abs ρ₁} {n = 2 * 2 ^ i + 1} (omega (arith, D'.small))),
        omega (arith, lt_of_mul-lt-mul_left (2 ^ w) {m = 2 ^ (i + w)} {n = 2 * nat_abs X₁ + 1} (omega (arith, D.small))),
      )

  pub lemma_S : {ρ : ℤ} {k' : ℕ} → Naf w ρ k' → (j : ℕ) (u : ℤ) {X : ℤ} {k : ℕ} → Naf w X k → X ≡ pos (2 ^ suc j) *ℤ u +ℤ ρ → nat_abs ρ ≤ 2 ^ j → 2 ^ (j + w) ≤ 2 * nat_abs X → k' < k
  lemma_S (nil e) j u N q l big = positive N (omega (arith, pow_pos (j + w)))
  lemma_S (even ρ₁ e M) zero u N q l big =
      let a : 2 * nat_abs ρ₁ ≡ _ = sym (abs_mul 2 ρ₁) ∙ ap nat_abs (sym e) in
      let z : up ρ₁ ≡ dn ρ₁ = omega (arith, abs ρ₁) in
      omega (arith, zero_weight M (rw (parts ρ₁) (simp diffs (omega ring))), positive N (omega (arith, pow_pos (0 + w))))
  lemma_S (even ρ₁ e M) (suc j) u (nil e') q l big = absurd (omega (arith, pow_pos (suc j + w), ap nat_abs e'))
  lemma_S (even ρ₁ e M) (suc j) u (even X₁ e' N) q l big =
      let a = sym (abs_mul 2 ρ₁) ∙ ap nat_abs (sym e) in
      let b = sym (abs_mul 2 X₁) ∙ ap nat_abs (sym e') in
      lemma_S M j u N
      (halve X₁ (pos (2 ^ suc j) *ℤ u +ℤ ρ₁) (sym e' ∙ q ∙ rw (e, parts u, parts ρ₁) (simp diffs (omega ring))))
      (omega arith)
      (omega (arith, ap (λ t. 2 ^ t) (suc-add j w)))
  lemma_S (even ρ₁ e M) (suc j) u (odd {Y = X} X₁ x D e' N) q l big =
      absurd (clash X (pos (2 ^ suc j) *ℤ u +ℤ ρ₁) X₁ x (q ∙ rw (e, parts u, parts ρ₁) (simp diffs (omega ring))) D e')
  lemma_S (odd ρ₁ r D' e M) j u (nil e') q l big = absurd (omega (arith, pow_pos (j + w), ap nat_abs e'))
  lemma_S (odd {Y = ρ} ρ₁ r D' e M) j u (even {Y = X} X₁ e' N) q l big =
      let k = simp diffs at (rw (parts X₁, parts u, parts ρ) at (sym e' ∙ q)) in
      absurd (clash ρ (X₁ -ℤ pos (2 ^ j) *ℤ u) ρ₁ r (rw (parts X₁, parts u, parts ρ) (simp diffs (omega ring))) D' e)
  lemma_S (odd {Y = ρ} ρ₁ r D' e M) j u (odd {Y = X} X₁ x D e' N) q l big =
      at_most (dec_lt j w)
      (λ h. let (z, p) = low j h X X₁ x ρ ρ₁ r e' D e D' l big in omega (arith, zero_weight M z, positive N p))
      (λ h.
      let (i, a) = le_dest h in
      let (q₁, l₁, big₁) = high i j a u X X₁ x ρ ρ₁ r e' D e D' q l big in
      suc-le-suc (lemma_S M i u N q₁ l₁ big₁))

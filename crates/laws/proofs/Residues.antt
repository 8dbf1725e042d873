-- The least nonnegative residue of an integer modulo m, and its laws: it is one only, and goes with sums, differences, doubles and products. Assumes nothing.
use mathlib.Core.Path.{◌≡◌, refl, sym, ap, ◌∙◌}
use Prim.Native.Nat.{ℕ, suc, ◌+◌, ◌*◌, ◌-◌, ◌/◌, ◌%◌, ◌<◌}
use native.Mathlib.Omega.{arith}
use native.Mathlib.Nat.{div-add-mod, mod-lt}
use lib.IntN.{ℤ, pos, negsuc, ◌+ℤ◌, ◌-ℤ◌, ◌*ℤ◌}
use Rattle.laws.proofs.Integers.{parts, diffs, ring}
use Rattle.laws.proofs.Division.{same_floor}

unfoldable pub residue : ℕ → ℤ → ℕ
residue m (pos a) = a % m
residue m (negsuc a) = m - suc (a % m)

module _ (m : ℕ) (some : 0 < m) where
  -- z is a multiple of m and the residue
  pub residue_is : (z : ℤ) → (q : ℤ) × (z ≡ pos m *ℤ q +ℤ pos (residue m z))
  unfolding residue
  residue_is (pos a) = (pos (a / m), ap pos (omega (arith, div-add-mod a m)))
  residue_is (negsuc a) = (negsuc (a / m), simp diffs (omega (ring, div-add-mod a m, mod-lt a some)))

  pub residue_lt : (z : ℤ) → residue m z < m
  unfolding residue
  residue_lt (pos a) = mod-lt a some
  residue_lt (negsuc a) = omega arith

  -- and the only one
  pub residue_only : (z q : ℤ) (x : ℕ) → z ≡ pos m *ℤ q +ℤ pos x → x < m → residue m z ≡ x
  residue_only z q x e l =
      let (p, f) = residue_is z in
      (same_floor m p q (residue m z) x (sym f ∙ e) (residue_lt z) l).1

  -- of a number that differs by a multiple
  pub residue_of : (z q : ℤ) (x : ℕ) → z ≡ pos m *ℤ q +ℤ pos x → residue m z ≡ x % m
  residue_of z q x e =
      residue_only z (q +ℤ pos (x / m)) (x % m)
      (e ∙ ap (λ t. pos m *ℤ q +ℤ pos t) (sym (div-add-mod x m)) ∙ law (x / m) (x % m)) (mod-lt x some)
    where
      law : (a b : ℕ) → pos m *ℤ q +ℤ pos (m * a + b) ≡ pos m *ℤ (q +ℤ pos a) +ℤ pos b
      law a b = rw (parts q) (simp diffs (omega ring))

  -- sums
  pub residue_add : (x y : ℤ) → residue m (x +ℤ y) ≡ (residue m x + residue m y) % m
  residue_add x y =
      let (p, e) = residue_is x in
      let (q, f) = residue_is y in
      residue_of (x +ℤ y) (p +ℤ q) (residue m x + residue m y) (ap (λ t. t +ℤ y) e ∙ ap (λ t. (pos m *ℤ p +ℤ pos (residue m x)) +ℤ t) f ∙ law p q (residue m x) (residue m y))
    where
      law : (p q : ℤ) (a b : ℕ) → (pos m *ℤ p +ℤ pos a) +ℤ (pos m *ℤ q +ℤ pos b) ≡ pos m *ℤ (p +ℤ q) +ℤ pos (a + b)
      law p q a b = rw (parts p, parts q) (simp diffs (omega ring))

  -- differences: the other's residue is taken from m
  pub residue_sub : (x y : ℤ) → residue m (x -ℤ y) ≡ (residue m x + (m - residue m y)) % m
  residue_sub x y =
      let (p, e) = residue_is x in
      let (q, f) = residue_is y in
      residue_of (x -ℤ y) (p -ℤ q -ℤ pos 1) (residue m x + (m - residue m y))
      (ap (λ t. t -ℤ y) e ∙ ap (λ t. (pos m *ℤ p +ℤ pos (residue m x)) -ℤ t) f ∙ law p q (residue m x) (residue m y) (residue_lt y))
    where
      law : (p q : ℤ) (a b : ℕ) → b < m → (pos m *ℤ p +ℤ pos a) -ℤ (pos m *ℤ q +ℤ pos b) ≡ pos m *ℤ (p -ℤ q -ℤ pos 1) +ℤ pos (a + (m - b))
      law p q a b l = rw (parts p, parts q) (simp diffs (omega ring))

  -- doubles
  pub residue_double : (x : ℤ) → residue m (pos 2 *ℤ x) ≡ (residue m x + residue m x) % m
  residue_double x = ap (residue m) (rw (parts x) (simp diffs (omega ring))) ∙ residue_add x x

  -- a natural number, and a multiple of one by a natural
  pub residue_pos : (a : ℕ) → residue m (pos a) ≡ a % m
  unfolding residue
  residue_pos a = refl

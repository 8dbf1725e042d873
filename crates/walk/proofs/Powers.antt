-- The run over powers: products modulo m, the power of a sum, and the walk as the base to the tape's value. The modulus may be 1. Assumes nothing.
use mathlib.Core.Path.{◌≡◌, refl, sym, ap, ◌∙◌}
use mathlib.Core.List.{List}
use Prim.Native.Nat.{ℕ, zero, suc, ◌+◌, ◌*◌, ◌/◌, ◌%◌, ◌^◌, ◌<◌}
use native.Mathlib.Nat.{one-mul, mul-one, mul_comm, mul-add-mod_self_left, div-add-mod, pow-zero, pow-succ'}
use native.Mathlib.Omega.{arith}
use lib.IntN.{ℤ, pos, neg_ℤ, ◌+ℤ◌, ◌*ℤ◌}
use lib.Pow.{pow-add}
use Rattle.laws.proofs.Integers.{up, dn, parts, diff, diff_add, diff_eq, diff_pos, diff_negsuc, diffs, ring}
use Rattle.meaning.specs.Words.{plus, minus}
use Rattle.meaning.specs.Walks.{walk, wholes, multiple, odds, tape_value}
use Rattle.meaning.specs.Powering.{power}
use Rattle.walk.specs.Powers.{products, odd_powers}
use Rattle.walk.proofs.Walk.{Maps, Tables, Within, walk_maps}

-- ---- products modulo m
module _ (m : ℕ) where
  -- a factor may be replaced by its residue
  pub mod_mul : (a b : ℕ) → a % m * b % m ≡ a * b % m
  mod_mul a b =
      let q = a / m in
      let r = a % m in
      let e : a * b ≡ m * (q * b) + r * b = ap (λ x. x * b) (sym (div-add-mod a m)) ∙ spread q r in
      sym (ap (λ x. x % m) e ∙ mul-add-mod_self_left m (q * b) (r * b))
    where
      spread : (q r : ℕ) → (m * q + r) * b ≡ m * (q * b) + r * b
      spread q r = omega arith

  pub mul_mod : (a b : ℕ) → a * (b % m) % m ≡ a * b % m
  mul_mod a b = ap (λ x. x % m) (mul_comm a (b % m)) ∙ mod_mul b a ∙ ap (λ x. x % m) (mul_comm b a)

  -- and so may both
  pub mul_mods : (a b : ℕ) → a % m * (b % m) % m ≡ a * b % m
  mul_mods a b = mod_mul a (b % m) ∙ mul_mod a b

-- ---- powers of the base and of its inverse
module _ (m g i : ℕ) (inverse : g * i % m ≡ 1 % m) where
  -- g to the a and i to the b, as many of either as there are
  both : ℕ → ℕ → ℕ
  both a b = g ^ a * i ^ b % m

  -- one of either is 1 together
  both_less : (a b : ℕ) → both (suc a) (suc b) ≡ both a b
  unfolding both
  both_less a b =
      ap (λ x. x % m) (apart (g ^ a) (i ^ b) (pow-succ' g a) (pow-succ' i b)) ∙ sym (mod_mul m (g * i) (g ^ a * i ^ b))
      ∙ ap (λ x. x * (g ^ a * i ^ b) % m) inverse ∙ mod_mul m 1 (g ^ a * i ^ b) ∙ ap (λ x. x % m) (one-mul (g ^ a * i ^ b))
    where
      apart : (p q : ℕ) {s t : ℕ} → s ≡ g * p → t ≡ i * q → s * t ≡ g * i * (p * q)
      apart p q e f = rw (e, f) (omega arith)

  -- the power of a difference
  power_diff : (a b : ℕ) → power m g i (diff a b) ≡ both a b
  unfolding power both
  power_diff a zero =
      ap (power m g i) (sym (diff_pos a)) ∙ ap (λ x. x % m) (sym (ap (λ x. g ^ a * x) (pow-zero i) ∙ mul-one (g ^ a)))
  power_diff zero (suc b) =
      ap (power m g i) (sym (diff_negsuc b)) ∙ ap (λ x. x % m) (sym (ap (λ x. x * i ^ suc b) (pow-zero g) ∙ one-mul (i ^ suc b)))
  power_diff (suc a) (suc b) =
      ap (power m g i) (diff_eq (suc a) (suc b) a b (omega arith)) ∙ power_diff a b ∙ sym (both_less a b)

  -- the power of a sum is the product
  pub power_add : (z y : ℤ) → power m g i (z +ℤ y) ≡ power m g i z * power m g i y % m
  unfolding both
  power_add z y =
      let a = up z in
      let b = dn z in
      let c = up y in
      let d = dn y in
      ap (λ t. power m g i (t +ℤ y)) (parts z) ∙ ap (λ t. power m g i (diff a b +ℤ t)) (parts y) ∙ ap (power m g i) (diff_add a b c d)
      ∙ power_diff (a + c) (b + d) ∙ ap (λ x. x % m) (mix (g ^ a) (g ^ c) (i ^ b) (i ^ d) (pow-add g a c) (pow-add i b d))
      ∙ sym (mul_mods m (g ^ a * i ^ b) (g ^ c * i ^ d)) ∙ ap (λ x. x * (g ^ c * i ^ d % m) % m) (sym (power_diff a b) ∙ ap (power m g i) (sym (parts z)))
      ∙ ap (λ x. power m g i z * x % m) (sym (power_diff c d) ∙ ap (power m g i) (sym (parts y)))
    where
      mix : (p q r s : ℕ) {u v : ℕ} → u ≡ p * q → v ≡ r * s → u * v ≡ (p * r) * (q * s)
      mix p q r s e f = rw (e, f) (omega arith)

  -- no power is 1
  pub power_none : power m g i (pos 0) ≡ 1 % m
  unfolding power
  power_none = ap (λ x. x % m) (pow-zero g)

  pub power_maps : Maps wholes (products m) (power m g i)
  power_maps =
      record { none_is = power_none; dbl_is = λ z. ap (power m g i) (double z) ∙ power_add z z; add_is = power_add }
    where
      double : (z : ℤ) → pos 2 *ℤ z ≡ z +ℤ z
      double z = rw (parts z) (simp diffs (omega ring))

  pub power_tables : (count : ℕ) → Tables (power m g i) count odds (odd_powers m g i)
  unfolding power
  power_tables count plus e l = refl
  power_tables count minus e l = negative (multiple e) (omega arith)
    where
      negative : (k : ℕ) → 0 < k → power m g i (neg_ℤ (pos k)) ≡ i ^ k % m
      negative zero h = absurd (omega arith)
      negative (suc k) h = refl

  -- the walk of any words whose entries are there
  pub walk_power : (count : ℕ) (ws : List ℕ) → Within count ws → power m g i (tape_value ws) ≡ walk (products m) (odd_powers m g i) ws
  walk_power count ws l =
      walk_maps power_maps count (power_tables count) ws l

-- The odd powers of the base modulo m: the first, and how the next is found from one. Assumes nothing.
use mathlib.Core.Path.{◌≡◌, sym, ap, ◌∙◌}
use Prim.Native.Nat.{ℕ, ◌+◌, ◌*◌, ◌%◌, ◌^◌}
use native.Mathlib.Nat.{mul-one, pow-zero, pow-succ'}
use native.Mathlib.Omega.{arith}
use lib.Pow.{pow-add}
use Rattle.meaning.specs.Walks.{multiple}
use Rattle.walk.proofs.Powers.{mul_mods}

-- a number is its own first power
pow_one : (g : ℕ) → g ^ 1 ≡ g
pow_one g = pow-succ' g 0 ∙ ap (λ a. g * a) (pow-zero g) ∙ mul-one g

module _ (m g : ℕ) where
  -- the e-th, as it is stored
  abbrev pub stored : ℕ → ℕ
  stored e = g ^ multiple e % m

  -- the first is the base's residue
  pub stored_first : g % m ≡ stored 0
  stored_first = ap (λ t. t % m) (sym (pow_one g))

  -- times the square is the next
  pub stored_next : (e : ℕ) {x t : ℕ} → x ≡ stored e → t ≡ (g % m) * (g % m) % m → x * t % m ≡ stored (e + 1)
  stored_next e {x} {t} p q =
      ap (λ a. a * t % m) p ∙ ap (λ a. stored e * a % m) (q ∙ mul_mods m g g) ∙ mul_mods m (g ^ multiple e) (g * g) ∙ ap (λ a. a % m) more
    where
      square : g ^ 2 ≡ g * g
      square = pow-succ' g 1 ∙ ap (λ a. g * a) (pow_one g)

      more : g ^ multiple e * (g * g) ≡ g ^ multiple (e + 1)
      more = ap (λ a. g ^ multiple e * a) (sym square) ∙ sym (pow-add g (multiple e) 2) ∙ ap (λ k. g ^ k) (omega arith)

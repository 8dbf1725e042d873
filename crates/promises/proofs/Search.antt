-- The promise of the search: two answers that satisfy it for one input are equal. Assumes nothing.
use mathlib.Core.Path.{◌≡◌, sym, ap, ◌∙◌}
use Prim.Native.Nat.{ℕ}
use native.Mathlib.Omega.{arith}
use native.Mathlib.Decide.{ℕ_discrete}
use lib.IntN.{ℤ}
use Rattle.meaning.specs.Searching.{LeastWeight, search_rules, Searched, Search}
use Rattle.forms.proofs.Refusals.{first_only}

-- one least weight only
least_same : {w places k k' : ℕ} {z : ℤ} → LeastWeight w places z k → LeastWeight w places z k' → k ≡ k'
least_same a b = omega (arith, a.least b.string b.spells, b.least a.string a.spells, a.weight_is, b.weight_is)

pub search_determined : (number w : ℕ) (a b : Searched) → Search number w a → Search number w b → a ≡ b
search_determined number w a b K L = go (ℕ_discrete a.refusal 0)
  where
    one : a.refusal ≡ b.refusal
    one = (first_only (search_rules number w) K.first L.first).0

    made : a.weight ≡ b.weight → a ≡ b
    made e = ap (λ x. record { refusal = x; weight = a.weight }) one ∙ ap (λ x. record { refusal = b.refusal; weight = x }) e

    go : Dec (a.refusal ≡ 0) → a ≡ b
    go (yes z) = made (least_same (K.accepted z) (L.accepted (sym one ∙ z)))
    go (no n) = made (K.refused n ∙ sym (L.refused (λ e. n (one ∙ e))))

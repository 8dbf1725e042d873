-- The counts of the columns passed, with one column more. Assumes nothing.
use mathlib.Core.Path.{◌≡◌, refl, sym, ap, ◌∙◌}
use mathlib.Core.Logic.{◌≢◌}
use mathlib.Core.List.{List}
use Prim.Native.Nat.{ℕ, ◌+◌, ◌<◌, ◌≤◌}
use native.Mathlib.Omega.{arith}
use lib.IntN.{ℤ, pos}
use lib.ListN.{length, get_or, take}
use lib.Seq.{take_all, length-take-le}
use Rattle.meaning.specs.Digits.{nonzero, weight, top}
use Rattle.forms.proofs.Strings.{weight_le, weight_next, top_same, top_next}
use Rattle.digits.specs.declared.Count.{Count}

module _ (ds : List ℤ) where
  -- those under place i are counted
  pub record Tallied (c : Count) (i : ℕ) : Type 0 where
    pub within : i ≤ length ds
    pub weight_is : c.weight ≡ weight (take i ds)
    pub top_is : c.top ≡ top (take i ds)

  pub tally_none : Tallied (record { weight = 0; top = 0 }) 0
  unfolding weight top
  tally_none = record { within = omega arith; weight_is = refl; top_is = refl }

  -- they are no more than the places
  pub tally_few : (c : Count) (i : ℕ) → Tallied c i → c.weight ≤ i
  tally_few c i t = omega (arith, t.weight_is, weight_le (take i ds), length-take-le i ds t.within)

  -- one column more, which is zero, or is not and so is the top
  module _ (c : Count) (i k : ℕ) {d : ℤ} (t : Tallied c i) (h : i < length ds) (e : d ≡ get_or ds i (pos 0)) (counted : k ≡ nonzero d) where
    more : c.weight + k ≡ weight (take (i + 1) ds)
    more = ap (λ x. c.weight + x) counted ∙ ap (λ x. x + nonzero d) t.weight_is ∙ ap (λ x. weight (take i ds) + nonzero x) e ∙ sym (weight_next ds i h)

    pub tally_same : d ≡ pos 0 → Tallied (record { weight = c.weight + k; top = c.top }) (i + 1)
    tally_same z = record { within = omega arith; weight_is = more; top_is = t.top_is ∙ sym (top_same ds i h (sym e ∙ z)) }

    pub tally_next : d ≢ pos 0 → Tallied (record { weight = c.weight + k; top = i + 1 }) (i + 1)
    tally_next n = record { within = omega arith; weight_is = more; top_is = sym (top_next ds i h (λ z. n (e ∙ z))) }

  -- all of them
  pub tally_all : (c : Count) (i : ℕ) → Tallied c i → length ds ≤ i → (c.weight ≡ weight ds) × (c.top ≡ top ds)
  tally_all c i t h =
      let e = take_all i ds h in
      (t.weight_is ∙ ap weight e, t.top_is ∙ ap top e)

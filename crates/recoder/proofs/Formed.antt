-- A string has a form by the form's number, in the set that was chosen. Assumes nothing.
use mathlib.Core.Path.{◌≡◌, subst}
use mathlib.Core.Logic.{◌≢◌}
use mathlib.Core.List.{List}
use Prim.Native.Nat.{ℕ, ◌+◌, ◌^◌, ◌<◌, ◌≤◌}
use native.Mathlib.Omega.{arith}
use native.Mathlib.Decide.{ℕ_discrete}
use lib.IntN.{ℤ}
use Rattle.meaning.specs.Sets.{Between}
use Rattle.meaning.specs.Mof.{mof}
use Rattle.meaning.specs.Wmof.{wmof}
use Rattle.meaning.specs.Closest.{larger, smaller}
use Rattle.meaning.specs.Forms.{asked, most_form, Has, FormIn}
use Rattle.forms.specs.Fractional.{fractional_from}
use Rattle.forms.specs.Closest.{closest_of}
use Rattle.forms.proofs.Made.{fractional_is}
use Rattle.forms.proofs.Ties.{closest_is}
use Rattle.descending.specs.declared.Turn.{Turn}
use Rattle.descending.specs.declared.Turn.TheVariants.{Never, AtOne, AtZero}
use Rattle.descending.specs.Sweeps.{Turned}

module _ (f w m N n : ℕ) (ds : List ℤ) where
  pub is_mof : f ≡ 1 → ds ≡ mof N n → FormIn f w m N n ds
  unfolding asked Has
  is_mof e d = rw e d

  pub is_wmof : f ≡ 3 → ds ≡ wmof w N n → FormIn f w m N n ds
  unfolding asked Has
  is_wmof e d = rw e d

  module _ (set : Between w m) (small : N < 2 ^ n) where
    pub is_wnaf : f ≡ 2 → ds ≡ fractional_from w m (n + 1) N → FormIn f w m N n ds
    unfolding asked Has
    is_wnaf e d = rw (e, d) (fractional_is w m N n set small)

    pub is_larger : f ≡ 4 → ds ≡ closest_of larger w N n → FormIn f w m N n ds
    unfolding asked Has
    is_larger e d = rw (e, d) (closest_is larger w N n set.wide small)

    pub is_smaller : f ≡ 5 → ds ≡ closest_of smaller w N n → FormIn f w m N n ds
    unfolding asked Has
    is_smaller e d = rw (e, d) (closest_is smaller w N n set.wide small)

    -- by the leading bit at which a tie turns
    pub is_turned : (t : Turn) → f ≢ 1 → f ≢ 2 → 1 ≤ f → f ≤ most_form → (f ≡ 3 → t ≡ Never) → (f ≡ 4 → t ≡ AtOne) → (f ≡ 5 → t ≡ AtZero) → Turned t w N n ds → FormIn f w m N n ds
    is_turned t one other least most third fourth fifth d = go (ℕ_discrete f 3) (ℕ_discrete f 4)
      where
        go : Dec (f ≡ 3) → Dec (f ≡ 4) → FormIn f w m N n ds
        go (yes e) _ = is_wmof e (subst (λ u. Turned u w N n ds) (third e) d)
        go (no o) (yes e) = is_larger e (subst (λ u. Turned u w N n ds) (fourth e) d)
        go (no o) (no k) = let e : f ≡ 5 = omega arith in is_smaller e (subst (λ u. Turned u w N n ds) (fifth e) d)

-- A count of a string from place 0 up: what is known at place i, how one digit more goes, and how the count ends.
-- Assumes nothing.
use mathlib.Core.Path.{◌≡◌, refl, sym, ap, ◌∙◌}
use mathlib.Core.List.{List}
use mathlib.Core.Logic.{◌≢◌}
use Prim.Native.Nat.{ℕ, ◌+◌, ◌<◌, ◌≤◌}
use native.Mathlib.Omega.{arith}
use lib.IntN.{ℤ, pos}
use lib.ListN.{length, get_or, take}
use lib.Seq.{take_all, length-take-le}
use Rattle.meaning.specs.Digits.{nonzero, weight, top}
use Rattle.forms.proofs.Strings.{weight_le, weight_next, top_same, top_next, nonzero_one}

-- k and t are the counts of the digits under place i
pub record Passed (ds : List ℤ) (k t i : ℕ) : Type 0 where
  pub within : i ≤ length ds
  pub weight_is : k ≡ weight (take i ds)
  pub top_is : t ≡ top (take i ds)

module _ (ds : List ℤ) where
  -- nothing is passed yet
  pub pass_none : Passed ds 0 0 0
  unfolding weight top
  pass_none = record { within = omega arith; weight_is = refl; top_is = refl }

  -- the weight is at most the places passed
  pub pass_weight : (k t i : ℕ) → Passed ds k t i → k ≤ i
  pass_weight k t i h = omega (arith, weight_le (take i ds), length-take-le i ds h.within, h.weight_is)

  -- one digit more, which is 0
  pub pass_zero : (k t i : ℕ) → Passed ds k t i → i < length ds → get_or ds i (pos 0) ≡ pos 0 → Passed ds k t (i + 1)
  unfolding nonzero
  pass_zero k t i h l z =
      record {
        within = omega arith;
        weight_is = omega (arith, h.weight_is, weight_next ds i l, ap nonzero z);
        top_is = h.top_is ∙ sym (top_same ds i l z);
      }

  -- or another
  pub pass_one : (k t i : ℕ) → Passed ds k t i → i < length ds → get_or ds i (pos 0) ≢ pos 0 → Passed ds (k + 1) (i + 1) (i + 1)
  pass_one k t i h l n =
      record {
        within = omega arith;
        weight_is = omega (arith, h.weight_is, weight_next ds i l, nonzero_one (get_or ds i (pos 0)) n);
        top_is = sym (top_next ds i l n);
      }

  -- the whole string
  pub pass_all : (k t i : ℕ) → Passed ds k t i → length ds ≤ i → (k ≡ weight ds) × (t ≡ top ds)
  pass_all k t i h l =
      let e : take i ds ≡ ds = take_all i ds l in
      (h.weight_is ∙ ap weight e, h.top_is ∙ ap top e)

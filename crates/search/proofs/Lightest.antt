-- The least weight of some strings, or none: as the search answers it, of no place, and of strings with a digit put under others.
-- Assumes nothing.
use mathlib.Core.Path.{◌≡◌, refl, ap, sym}
use mathlib.Core.Logic.{◌≢◌}
use mathlib.Core.List.{List, [], ◌∷◌}
use Prim.Native.Nat.{ℕ, ◌+◌, ◌≤◌, ◌<◌, min}
use native.Mathlib.Decide.{dec_le, dec_lt}
use native.Mathlib.Omega.{arith}
use lib.IntN.{ℤ, pos, nat_abs}
use Rattle.meaning.specs.Digits.{all_in, worth, nonzero, weight}
use Rattle.meaning.specs.Searching.{search_places, Spells}
use Rattle.forms.proofs.Strings.{weight_le}
use Rattle.search.specs.Least.{nothing, Least, found, none}

-- r is the least weight of the strings that P holds of, or `nothing` where none of them weighs less than that
pub record Lightest (P : List ℤ → Type 0) (r : ℕ) : Type 0 where
  pub most : r ≤ nothing
  pub reached : r < nothing → (ds : List ℤ) × P ds × (weight ds ≡ r)
  pub least : (ds : List ℤ) → P ds → r ≤ weight ds

-- of other strings that are the same
pub lightest_as : {P Q : List ℤ → Type 0} {r : ℕ} → ((ds : List ℤ) → P ds → Q ds) → ((ds : List ℤ) → Q ds → P ds) → Lightest P r → Lightest Q r
lightest_as f g l =
    record { most = l.most; reached = λ h. let (ds, s, e) = l.reached h in (ds, f ds s, e); least = λ ds s. l.least ds (g ds s) }

-- ---- what a search answers
module _ {w places : ℕ} {z : ℤ} (few : places ≤ search_places) where
  -- a string weighs less than `nothing`
  spelt_weight : {ds : List ℤ} → Spells w places z ds → weight ds ≤ search_places
  spelt_weight {ds} s = omega (arith, weight_le ds, s.length_is)

  -- an answer as a least weight
  pub lightest_of : {r : ℕ} → Least w places z r → Lightest (Spells w places z) r
  lightest_of (found l) =
      record {
        most = omega (arith, spelt_weight l.spells, l.weight_is);
        reached = λ h. (l.string, l.spells, l.weight_is);
        least = l.least;
      }
  lightest_of (none e n) =
      record { most = omega arith; reached = λ h. absurd (omega arith); least = λ ds s. absurd (n ds s) }

  -- and back
  pub lightest_is : {r : ℕ} → Lightest (Spells w places z) r → Least w places z r
  lightest_is {r} l = go (dec_lt r nothing)
    where
      go : Dec (r < nothing) → Least w places z r
      go (yes h) =
          let (ds, s, e) = l.reached h in
          found (record { string = ds; spells = s; weight_is = e; least = l.least })
      go (no h) = none (omega (arith, l.most)) (λ ds s. omega (arith, l.least ds s, spelt_weight s))

-- ---- no place: only 0 has a string, the empty one
pub least_empty : (w : ℕ) {places m : ℕ} → places ≡ 0 → m ≡ 0 → Least w places (pos m) 0
unfolding all_in worth weight
least_empty w e f = rw (e, f) (found (record {
  string = [];
  spells = record { length_is = refl; is_in_set = tt; worth_is = refl };
  weight_is = refl;
  least = λ ds s. omega arith;
}))

pub least_none : (w : ℕ) {places m : ℕ} → places ≡ 0 → m ≢ 0 → Least w places (pos m) nothing
unfolding worth
least_none w {places} {m} e n = none refl go
  where
    go : (ds : List ℤ) → Spells w places (pos m) ds → ⊥
    go [] s = n (sym (ap nat_abs s.worth_is))
    go (d ∷ ds) s = omega (arith, s.length_is)

-- ---- more strings
-- the strings that P holds of, and those of a digit x over which A holds
pub data Ways (P A : List ℤ → Type 0) (x : ℤ) : List ℤ → Type 0 where
  other : {ds : List ℤ} → P ds → Ways P A x ds
  over : {ds : List ℤ} → A ds → Ways P A x (x ∷ ds)

-- their least weight
pub lightest_ways : {P A : List ℤ → Type 0} {x : ℤ} {r a : ℕ} → Lightest P r → Lightest A a → Lightest (Ways P A x) (min r (a + nonzero x))
unfolding weight
lightest_ways {P} {A} {x} {r} {a} k l =
    record { most = omega (arith, k.most); reached = λ h. go h (dec_le r (a + nonzero x)); least = λ ds s. none_lighter s }
  where
    go : min r (a + nonzero x) < nothing → Dec (r ≤ a + nonzero x) → (ds : List ℤ) × Ways P A x ds × (weight ds ≡ min r (a + nonzero x))
    go h (yes i) = let (ds, s, e) = k.reached (omega arith) in (ds, other s, omega arith)
    go h (no i) = let (ds, s, e) = l.reached (omega arith) in (x ∷ ds, over s, omega arith)

    none_lighter : {ds : List ℤ} → Ways P A x ds → min r (a + nonzero x) ≤ weight ds
    none_lighter (other {ds} s) = omega (arith, k.least ds s)
    none_lighter (over {ds} s) = omega (arith, l.least ds s)

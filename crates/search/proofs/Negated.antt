-- A string with every digit negated is worth the negative, of the same weight and over the same digits: a number and its negative have the same least weight.
-- Assumes nothing.
use mathlib.Core.Path.{◌≡◌, refl, ap, ap₂, subst, sym, ◌∙◌}
use mathlib.Core.Bool.{◌&&◌, ◌||◌}
use mathlib.Core.List.{List, [], ◌∷◌, map}
use Prim.Native.Nat.{ℕ, zero, suc, ◌+◌, ◌%◌, ◌≤◌}
use lib.Dec.{T, eqb, leb}
use lib.IntN.{ℤ, pos, negsuc, neg_ℤ, neg_ℤ-neg_ℤ, ◌+ℤ◌, ◌*ℤ◌}
use lib.ListN.{length-map}
use Rattle.laws.proofs.Integers.{parts, diffs, ring, abs_negate}
use Rattle.meaning.specs.Digits.{in_set, largest, all_in, worth, nonzero, weight}
use Rattle.meaning.specs.Searching.{Spells}
use Rattle.search.specs.Least.{Least, found, none}

-- every digit negated
abbrev negated : List ℤ → List ℤ
negated ds = map neg_ℤ ds

-- ---- a digit
nonzero_same : (d : ℤ) → nonzero (neg_ℤ d) ≡ nonzero d
unfolding nonzero
nonzero_same (pos zero) = refl
nonzero_same (pos (suc n)) = refl
nonzero_same (negsuc n) = refl

in_same : (m : ℕ) (d : ℤ) → in_set m (neg_ℤ d) ≡ in_set m d
unfolding in_set
in_same m d = ap (λ n. eqb n 0 || (eqb (n % 2) 1 && leb n m)) (abs_negate d)

-- ---- a string
pub negated_weight : (ds : List ℤ) → weight (negated ds) ≡ weight ds
unfolding weight
negated_weight [] = refl
negated_weight (d ∷ ds) = ap₂ ◌+◌ (nonzero_same d) (negated_weight ds)

pub negated_in : (m : ℕ) (ds : List ℤ) → all_in m (negated ds) ≡ all_in m ds
unfolding all_in
negated_in m [] = refl
negated_in m (d ∷ ds) = ap₂ ◌&&◌ (in_same m d) (negated_in m ds)

pub negated_worth : (ds : List ℤ) → worth (negated ds) ≡ neg_ℤ (worth ds)
unfolding worth
negated_worth [] = refl
negated_worth (d ∷ ds) = ap (λ x. neg_ℤ d +ℤ pos 2 *ℤ x) (negated_worth ds) ∙ over (worth ds)
  where
    over : (x : ℤ) → neg_ℤ d +ℤ pos 2 *ℤ neg_ℤ x ≡ neg_ℤ (d +ℤ pos 2 *ℤ x)
    over x = rw (parts d, parts x) (simp diffs (omega ring))

-- ---- what it spells
module _ {w places : ℕ} {z : ℤ} where
  spells_negated : {ds : List ℤ} → Spells w places z ds → Spells w places (neg_ℤ z) (negated ds)
  spells_negated {ds} s =
      record {
        length_is = length-map ds neg_ℤ ∙ s.length_is;
        is_in_set = subst T (sym (negated_in (largest w) ds)) s.is_in_set;
        worth_is = negated_worth ds ∙ ap neg_ℤ s.worth_is;
      }

module _ {w places : ℕ} {z : ℤ} where
  back : {ds : List ℤ} → Spells w places (neg_ℤ z) ds → Spells w places z (negated ds)
  back {ds} s = subst (λ x. Spells w places x (negated ds)) (neg_ℤ-neg_ℤ z) (spells_negated s)

  -- so the search may go by sizes
  pub least_negated : {r : ℕ} → Least w places z r → Least w places (neg_ℤ z) r
  least_negated {r} (found l) =
      found (record {
        string = negated l.string;
        spells = spells_negated l.spells;
        weight_is = negated_weight l.string ∙ l.weight_is;
        least = λ ds s. subst (λ k. r ≤ k) (negated_weight ds) (l.least (negated ds) (back s));
      })
  least_negated (none e n) = none e (λ ds s. n (negated ds) (back s))

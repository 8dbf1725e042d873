-- Strings by their places: weight and top of a string one digit longer, their bounds, and digits that are all in a set.
-- Assumes nothing.
use mathlib.Core.Path.{◌≡◌, refl, ap, ◌∙◌}
use mathlib.Core.Logic.{◌≢◌}
use mathlib.Core.List.{List, [], ◌∷◌, ◌++◌}
use Prim.Native.Nat.{ℕ, zero, suc, ◌+◌, ◌<◌, ◌≤◌}
use native.Mathlib.Numerals.{add-one}
use native.Mathlib.Omega.{arith}
use lib.Dec.{T}
use lib.IntN.{ℤ, pos, negsuc}
use lib.ListN.{length, get_or, take}
use lib.Seq.{take-suc, length-take-le}
use Rattle.laws.proofs.Choices.{and_of, and_both}
use Rattle.meaning.specs.Digits.{in_set, all_in, nonzero, weight, over, top}

-- the k lowest places hold 0
abbrev pub Clear : ℕ → List ℤ → Type 0
Clear k ds = (j : ℕ) → j < k → get_or ds j (pos 0) ≡ pos 0

-- ---- a digit
pub nonzero_le : (d : ℤ) → nonzero d ≤ 1
unfolding nonzero
nonzero_le (pos zero) = omega arith
nonzero_le (pos (suc n)) = omega arith
nonzero_le (negsuc n) = omega arith

pub nonzero_one : (d : ℤ) → d ≢ pos 0 → nonzero d ≡ 1
unfolding nonzero
nonzero_one (pos zero) h = absurd (h refl)
nonzero_one (pos (suc n)) h = refl
nonzero_one (negsuc n) h = refl

pub nonzero_none : {d : ℤ} → d ≡ pos 0 → nonzero d ≡ 0
unfolding nonzero
nonzero_none e = ap nonzero e

-- ---- the top over a lowest place
pub over_none : (h t : ℕ) → t ≡ 0 → over h t ≡ h
over_none h t e = ap (over h) e

pub over_some : (h t : ℕ) → 0 < t → over h t ≡ suc t
over_some h zero l = absurd (omega arith)
over_some h (suc t) l = refl

over_le : (h t n : ℕ) → h ≤ 1 → t ≤ n → over h t ≤ suc n
over_le h zero n a b = omega arith
over_le h (suc t) n a b = omega arith

-- ---- bounds
pub weight_le : (ds : List ℤ) → weight ds ≤ length ds
unfolding weight
weight_le [] = omega arith
weight_le (d ∷ ds) = omega (arith, weight_le ds, nonzero_le d)

pub top_le : (ds : List ℤ) → top ds ≤ length ds
unfolding top
top_le [] = omega arith
top_le (d ∷ ds) = over_le (nonzero d) (top ds) (length ds) (nonzero_le d) (top_le ds)

-- ---- one digit longer
weight_snoc : (ds : List ℤ) (d : ℤ) → weight (ds ++ (d ∷ [])) ≡ weight ds + nonzero d
unfolding weight
weight_snoc [] d = omega arith
weight_snoc (x ∷ ds) d = omega (arith, weight_snoc ds d)

-- a 0 leaves the top
top_zero : (ds : List ℤ) (d : ℤ) → nonzero d ≡ 0 → top (ds ++ (d ∷ [])) ≡ top ds
unfolding top
top_zero [] d e = e
top_zero (x ∷ ds) d e = ap (over (nonzero x)) (top_zero ds d e)

-- a nonzero digit is the top
top_digit : (ds : List ℤ) (d : ℤ) → nonzero d ≡ 1 → top (ds ++ (d ∷ [])) ≡ suc (length ds)
unfolding top
top_digit [] d e = e
top_digit (x ∷ ds) d e = ap (over (nonzero x)) (top_digit ds d e)

module _ (ds : List ℤ) (i : ℕ) (h : i < length ds) where
  longer : take (i + 1) ds ≡ take i ds ++ (get_or ds i (pos 0) ∷ [])
  longer = rw add-one (take-suc ds i (pos 0) h)

  pub weight_next : weight (take (i + 1) ds) ≡ weight (take i ds) + nonzero (get_or ds i (pos 0))
  weight_next = ap weight longer ∙ weight_snoc (take i ds) (get_or ds i (pos 0))

  pub top_same : get_or ds i (pos 0) ≡ pos 0 → top (take (i + 1) ds) ≡ top (take i ds)
  top_same e = ap top longer ∙ top_zero (take i ds) (get_or ds i (pos 0)) (nonzero_none e)

  pub top_next : get_or ds i (pos 0) ≢ pos 0 → top (take (i + 1) ds) ≡ i + 1
  top_next n =
      ap top longer ∙ top_digit (take i ds) (get_or ds i (pos 0)) (nonzero_one (get_or ds i (pos 0)) n)
      ∙ omega (arith, length-take-le i ds (omega arith))

-- ---- every digit in the set
pub all_in_is : (m : ℕ) (ds : List ℤ) → ((i : ℕ) → i < length ds → T (in_set m (get_or ds i (pos 0)))) → T (all_in m ds)
unfolding all_in
all_in_is m [] f = tt
all_in_is m (d ∷ ds) f = and_of (in_set m d) (all_in m ds) (f 0 (omega arith)) (all_in_is m ds (λ i h. f (suc i) (omega arith)))

-- and each of them is
pub all_at : (m : ℕ) (ds : List ℤ) → T (all_in m ds) → (i : ℕ) → i < length ds → T (in_set m (get_or ds i (pos 0)))
unfolding all_in
all_at m [] t i h = absurd (omega arith)
all_at m (d ∷ ds) t zero h = (and_both (in_set m d) (all_in m ds) t).0
all_at m (d ∷ ds) t (suc i) h = all_at m ds (and_both (in_set m d) (all_in m ds) t).1 i (omega arith)

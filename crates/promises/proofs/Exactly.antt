-- Rules one after the other: the number that a call gives is that of a rule which applies while none before it does, and 0 exactly when none applies.
-- Assumes nothing.
use mathlib.Core.Path.{◌≡◌, sym, ◌∙◌}
use mathlib.Core.Logic.{◌≢◌, inl, inr}
use mathlib.Core.Bool.{Bool, true, ◌&&◌}
use mathlib.Core.List.{List, [], ◌∷◌}
use Prim.Native.Nat.{ℕ, zero, suc}
use lib.Dec.{T}
use Rattle.laws.proofs.Choices.{and_both}
use Rattle.meaning.specs.Refusals.{Rule, number_of, First}
use Rattle.forms.proofs.Refusals.{first_only, Until, number_at, first_at, Clear, first_none, absent, absent_from, clear}

-- what a call promises of its refusal: the number of each rule is given, with the place, exactly when the rule applies there and no rule listed before it applies, and 0 exactly
-- when none applies
pub record Exactly (rules : List Rule) (r p : ℕ) : Type 0 where
  pub given : r ≢ 0 → (k : ℕ) × (r ≡ number_at rules k) × Until rules k p
  pub only : (k : ℕ) → r ≢ 0 → r ≡ number_at rules k → Until rules k p
  pub gives : (k q : ℕ) → Until rules k q → (r ≡ number_at rules k) × (p ≡ q)
  pub accepts : Clear rules → r ≡ 0
  pub accepted : r ≡ 0 → Clear rules

-- ---- the numbers are not 0 and differ from each other, by a test: for a list that is written out, `tt`
abbrev differ : List Rule → Bool
differ [] = true
differ (x ∷ xs) = absent (number_of x) xs && differ xs

abbrev pub distinct : List Rule → Bool
distinct rules = absent 0 rules && differ rules

-- ---- from the rules as a call tries them
-- the index of a number that is given
until : (rules : List Rule) (r p : ℕ) → First rules r p → r ≢ 0 → (k : ℕ) × (r ≡ number_at rules k) × Until rules k p
until [] r p (z, _) n = absurd (n z)
until (x ∷ xs) r p (inl (e, a)) n = (0, e, a)
until (x ∷ xs) r p (inr (o, f)) n = let (k, e, u) = until xs r p f n in (suc k, e, (o, u))

-- a number that no rule has
nowhere : (b : ℕ) (xs : List Rule) → T (absent b xs) → (k : ℕ) → b ≢ 0 → b ≡ number_at xs k → ⊥
nowhere b [] t k n e = n e
nowhere b (x ∷ xs) t zero n e = (absent_from b x xs t).0 e
nowhere b (x ∷ xs) t (suc k) n e = nowhere b xs (absent_from b x xs t).1 k n e

-- each other number has one index
only_until : (rules : List Rule) → T (differ rules) → (r p : ℕ) → First rules r p → (k : ℕ) → r ≢ 0 → r ≡ number_at rules k → Until rules k p
only_until [] t r p f k n e = absurd (n e)
only_until (x ∷ xs) t r p (inl (e, a)) zero n h = a
only_until (x ∷ xs) t r p (inl (e, a)) (suc k) n h = absurd (nowhere (number_of x) xs (and_both (absent (number_of x) xs) (differ xs) t).0 k (λ z. n (e ∙ z)) (sym e ∙ h))
only_until (x ∷ xs) t r p (inr (o, f)) zero n h =
    let (k, g, u) = until xs r p f n in
    absurd (nowhere (number_of x) xs (and_both (absent (number_of x) xs) (differ xs) t).0 k (λ z. n (h ∙ z)) (sym h ∙ g))
only_until (x ∷ xs) t r p (inr (o, f)) (suc k) n h = (o, only_until xs (and_both (absent (number_of x) xs) (differ xs) t).1 r p f k n h)

pub exactly : (rules : List Rule) → T (distinct rules) → (r p : ℕ) → First rules r p → Exactly rules r p
exactly rules t r p f =
    let (some, apart) = and_both (absent 0 rules) (differ rules) t in
    record {
      given = until rules r p f;
      only = only_until rules apart r p f;
      gives = λ k q u. first_only rules f (first_at rules k q u);
      accepts = λ n. (first_only rules f (first_none rules n)).0;
      accepted = clear rules some r p f;
    }

-- Rules of refusal: the number and the place of the first rule that applies are one only; a rule is the first where those before it fail; rules put in among others; and what is
-- granted or kept.
-- Assumes nothing.
use mathlib.Core.Path.{◌≡◌, refl, sym, ap, ◌∙◌}
use mathlib.Core.Logic.{◌≢◌, inl, inr}
use mathlib.Core.Bool.{Bool, true, not, ◌&&◌}
use mathlib.Core.List.{List, [], ◌∷◌, ◌++◌}
use Prim.Native.Nat.{ℕ, zero, suc, ◌<◌}
use native.Mathlib.Omega.{arith}
use native.Mathlib.Decide.{dec_lt, ℕ_discrete}
use lib.Dec.{T, eqb}
use Rattle.laws.proofs.Choices.{and_both, unequal}
use Rattle.meaning.specs.Refusals.{Rule, plain, lowest, number_of, Lowest, Applies, Fails, First, granted, kept}

-- ---- one rule
-- a lowest place is one only
pub lowest_one : (C : ℕ → Type 0) (p q : ℕ) → Lowest C p → Lowest C q → p ≡ q
lowest_one C p q (a, f) (b, g) = go (dec_lt p q) (dec_lt q p)
  where
    go : Dec (p < q) → Dec (q < p) → p ≡ q
    go (yes h) k = absurd (g p h a)
    go (no h) (yes k) = absurd (f q k b)
    go (no h) (no k) = omega arith

-- so is the place of a rule
applies_one : (x : Rule) (p q : ℕ) → Applies x p → Applies x q → p ≡ q
applies_one (plain n C) p q (a, e) (b, f) = e ∙ sym f
applies_one (lowest n C) p q a b = lowest_one C p q a b

-- a rule that fails applies at no place
pub fails_no : (x : Rule) (p : ℕ) → Fails x → Applies x p → ⊥
fails_no (plain n C) p o (c, e) = o c
fails_no (lowest n C) p o (c, f) = o p c

-- ---- the first of some rules
pub first_only : (xs : List Rule) {r p r' p' : ℕ} → First xs r p → First xs r' p' → (r ≡ r') × (p ≡ p')
first_only [] (a, b) (c, d) = (a ∙ sym c, b ∙ sym d)
first_only (x ∷ xs) {p = p} {p' = p'} (inl (a, b)) (inl (c, d)) = (a ∙ sym c, applies_one x p p' b d)
first_only (x ∷ xs) {p = p} (inl (a, b)) (inr (n, f)) = absurd (fails_no x p n b)
first_only (x ∷ xs) {p' = p'} (inr (n, f)) (inl (c, d)) = absurd (fails_no x p' n d)
first_only (x ∷ xs) (inr (n, f)) (inr (m, g)) = first_only xs f g

-- the rules before index k fail, and the one there applies at place p
abbrev pub Until : List Rule → (k p : ℕ) → Type 0
Until [] k p = ⊥
Until (x ∷ xs) zero p = Applies x p
Until (x ∷ xs) (suc k) p = Fails x × Until xs k p

abbrev pub number_at : List Rule → ℕ → ℕ
number_at [] k = 0
number_at (x ∷ xs) zero = number_of x
number_at (x ∷ xs) (suc k) = number_at xs k

-- then it is the first
pub first_at : (xs : List Rule) (k p : ℕ) → Until xs k p → First xs (number_at xs k) p
first_at [] k p u = absurd u
first_at (x ∷ xs) zero p u = inl (refl, u)
first_at (x ∷ xs) (suc k) p (o, u) = inr (o, first_at xs k p u)

-- whatever comes after it
pub first_kept : (xs more : List Rule) (r p : ℕ) → r ≢ 0 → First xs r p → First (xs ++ more) r p
first_kept [] more r p n (z, q) = absurd (n z)
first_kept (x ∷ xs) more r p n (inl h) = inl h
first_kept (x ∷ xs) more r p n (inr (a, f)) = inr (a, first_kept xs more r p n f)

-- no rule applies: nothing is refused
abbrev pub Clear : List Rule → Type 0
Clear [] = Unit {0}
Clear (x ∷ xs) = Fails x × Clear xs

pub first_none : (xs : List Rule) → Clear xs → First xs 0 0
first_none [] c = (refl, refl)
first_none (x ∷ xs) (o, c) = inr (o, first_none xs c)

pub clear_both : (xs ys : List Rule) → Clear xs → Clear ys → Clear (xs ++ ys)
clear_both [] ys c d = d
clear_both (x ∷ xs) ys (o, c) d = (o, clear_both xs ys c d)

-- ---- the numbers of rules, by a test: for a list that is written out, `tt`
-- no rule has the number b
abbrev pub absent : ℕ → List Rule → Bool
absent b [] = true
absent b (x ∷ xs) = not (eqb b (number_of x)) && absent b xs

-- so the head has another, and no rule of the tail has it
pub absent_from : (b : ℕ) (x : Rule) (xs : List Rule) → T (absent b (x ∷ xs)) → (b ≢ number_of x) × T (absent b xs)
absent_from b x xs t = let (l, r) = and_both (not (eqb b (number_of x))) (absent b xs) t in (unequal b (number_of x) l, r)

-- where no rule has the number 0, a rule that applies has a number that is not 0
pub number_some : (xs : List Rule) → T (absent 0 xs) → (k p : ℕ) → Until xs k p → number_at xs k ≢ 0
number_some [] t k p u e = u
number_some (x ∷ xs) t zero p u e = (absent_from 0 x xs t).0 (sym e)
number_some (x ∷ xs) t (suc k) p (o, u) e = number_some xs (absent_from 0 x xs t).1 k p u e

-- and where nothing is refused, no rule applies
pub clear : (xs : List Rule) → T (absent 0 xs) → (r p : ℕ) → First xs r p → r ≡ 0 → Clear xs
clear [] t r p f z = tt
clear (x ∷ xs) t r p (inl (e, a)) z = absurd ((absent_from 0 x xs t).0 (sym z ∙ e))
clear (x ∷ xs) t r p (inr (o, f)) z = (o, clear xs (absent_from 0 x xs t).1 r p f z)

-- ---- rules put in among others
-- rules that do not apply may stand before
first_after : (xs ys : List Rule) (r p : ℕ) → Clear xs → First ys r p → First (xs ++ ys) r p
first_after [] ys r p c f = f
first_after (x ∷ xs) ys r p (o, c) f = inr (o, first_after xs ys r p c f)

-- and be left out
first_left : (xs ys : List Rule) (r p : ℕ) → Clear xs → First (xs ++ ys) r p → First ys r p
first_left [] ys r p c f = f
first_left (x ∷ xs) ys r p (o, c) (inl (e, a)) = absurd (fails_no x p o a)
first_left (x ∷ xs) ys r p (o, c) (inr (n, f)) = first_left xs ys r p c f

-- where they do not apply if none before them does
pub first_without : (xs more ys : List Rule) (r p : ℕ) → (Clear xs → Clear more) → First (xs ++ (more ++ ys)) r p → First (xs ++ ys) r p
first_without [] more ys r p c f = first_left more ys r p (c tt) f
first_without (x ∷ xs) more ys r p c (inl h) = inl h
first_without (x ∷ xs) more ys r p c (inr (o, f)) = inr (o, first_without xs more ys r p (λ d. c (o, d)) f)

pub first_with : (xs more ys : List Rule) (r p : ℕ) → (Clear xs → Clear more) → First (xs ++ ys) r p → First (xs ++ (more ++ ys)) r p
first_with [] more ys r p c f = first_after more ys r p (c tt) f
first_with (x ∷ xs) more ys r p c (inl h) = inl h
first_with (x ∷ xs) more ys r p c (inr (o, f)) = inr (o, first_with xs more ys r p (λ d. c (o, d)) f)

-- a number, 0 or not, stands for the rules that it is the first of
pub first_for : (xs more ys : List Rule) (b r p : ℕ) → T (absent 0 more) → (Clear xs → First more b 0) → First (xs ++ (plain b (b ≢ 0) ∷ ys)) r p → First (xs ++ (more ++ ys)) r p
first_for [] more ys b r p t g (inl (e, (n, q))) = first_kept more ys r p (λ z. n (sym e ∙ z)) (rw (e, q) (g tt))
first_for [] more ys b r p t g (inr (o, f)) = go (ℕ_discrete b 0)
  where
    go : Dec (b ≡ 0) → First (more ++ ys) r p
    go (yes z) = first_after more ys r p (clear more t b 0 (g tt) z) f
    go (no n) = absurd (o n)
first_for (x ∷ xs) more ys b r p t g (inl h) = inl h
first_for (x ∷ xs) more ys b r p t g (inr (o, f)) = inr (o, first_for xs more ys b r p t (λ c. g (o, c)) f)

-- ---- in a refusal
pub kept_lent : {A : Type 0} (r : ℕ) (written lent : List A) → r ≢ 0 → kept r written lent ≡ lent
kept_lent zero written lent n = absurd (n refl)
kept_lent (suc r) written lent n = refl

pub granted_none : (r x : ℕ) → r ≢ 0 → granted r x ≡ 0
granted_none zero x n = absurd (n refl)
granted_none (suc r) x n = refl

-- ---- on acceptance
pub granted_all : (r x : ℕ) → r ≡ 0 → granted r x ≡ x
granted_all r x e = ap (λ t. granted t x) e

pub kept_written : {A : Type 0} (r : ℕ) (written lent : List A) → r ≡ 0 → kept r written lent ≡ written
kept_written r written lent e = ap (λ t. kept t written lent) e

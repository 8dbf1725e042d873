-- Choices by a test: what holds of a choice, two choices by one test, and tests that pass or fail. Assumes nothing.
use mathlib.Core.Path.{◌≡◌, refl, sym, subst}
use mathlib.Core.Logic.{◌≢◌, ◌⊎◌, inl, inr}
use mathlib.Core.Bool.{Bool, true, false, not, cond, ◌&&◌, ◌||◌}
use Prim.Native.Nat.{ℕ, ◌<◌, ◌≤◌}
use native.Mathlib.Decide.{dec_le}
use native.Mathlib.Omega.{arith}
use lib.Dec.{T, eqb, eqb→eq, eqb_refl, T_not, not_T}
use Rattle.laws.specs.Deciding.{Decides}

-- what holds of both ways holds of the choice
pub either : {A : Type 0} (P : A → Type 0) (b : Bool) {x y : A} → (T b → P x) → (T (not b) → P y) → P (cond b x y)
either P true f g = f tt
either P false f g = g tt

-- two choices by one test
pub choices : {A B : Type 0} (P : A → B → Type 0) (c : Bool) {x y : A} {x' y' : B} → (T c → P x x') → (T (not c) → P y y') → P (cond c x y) (cond c x' y')
choices P true f g = f tt
choices P false f g = g tt

-- a choice whose test passes, or fails
pub yes_is : {A : Type 0} (c : Bool) (x y : A) → T c → cond c x y ≡ x
yes_is true x y t = refl
yes_is false x y t = absurd t

pub no_is : {A : Type 0} (c : Bool) (x y : A) → T (not c) → cond c x y ≡ y
no_is true x y t = absurd t
no_is false x y t = refl

-- two tests
pub and_both : (p q : Bool) → T (p && q) → T p × T q
and_both true q t = (tt, t)
and_both false q t = absurd t

pub and_of : (p q : Bool) → T p → T q → T (p && q)
and_of true q a b = b
and_of false q a b = absurd a

pub not_and : (p q : Bool) → T (not (p && q)) → T p → T (not q)
not_and true q t h = t
not_and false q t h = absurd h

pub or_either : (p q : Bool) → T (p || q) → T p ⊎ T q
or_either true q t = inl tt
or_either false q t = inr t

pub or_right : (p q : Bool) → T q → T (p || q)
or_right true q t = tt
or_right false q t = t

-- tests that pass and fail together are one
pub same_tests : (p q : Bool) → (T p → T q) → (T (not p) → T (not q)) → p ≡ q
same_tests true true f g = refl
same_tests true false f g = absurd (f tt)
same_tests false true f g = absurd (g tt)
same_tests false false f g = refl

-- a test that cannot fail passes
pub passes : (b : Bool) → (T (not b) → ⊥) → T b
passes true n = tt
passes false n = absurd (n tt)

-- tests of numbers
pub equal : (a b : ℕ) → a ≡ b → T (eqb a b)
equal a b e = subst (λ x. T (eqb a x)) e (eqb_refl a)

pub unequal : (a b : ℕ) → T (not (eqb a b)) → a ≢ b
unequal a b t e = T_not (eqb a b) t (equal a b e)

pub not_equal : (a b : ℕ) → a ≢ b → T (not (eqb a b))
not_equal a b n = not_T (eqb a b) (λ t. n (eqb→eq a b t))

-- numbers that cannot be different are one
pub not_different : (a b : ℕ) → (a ≢ b → ⊥) → a ≡ b
not_different a b n = eqb→eq a b (passes (eqb a b) (λ t. n (unequal a b t)))

-- the two outcomes of a test are different
pub true_false : true ≡ false → ⊥
true_false e = subst T e tt

-- what is not below is at least
pub not_below : {a b : ℕ} → (a < b → ⊥) → b ≤ a
not_below {a} {b} n = go (dec_le b a)
  where
    go : Dec (b ≤ a) → b ≤ a
    go (yes h) = h
    go (no h) = absurd (n (omega arith))

-- ---- a test that decides
-- one that fails does, where there is no yes
pub denies : {P : Type 0} → (P → ⊥) → Decides false P
denies n = record { yes = λ t. absurd (true_false (sym t)); no = λ f. n }

-- A word and its step: what the step says of the word's code and entry, each read back from the other, and what a step counts. Codes are matched here and nowhere else.
-- Assumes nothing.
use mathlib.Core.Path.{◌≡◌, refl, sym, ap, ◌∙◌}
use mathlib.Core.Logic.{◌≢◌, ◌⊎◌, inl, inr}
use mathlib.Core.Bool.{Bool, true, false, cond, ◌||◌}
use Prim.Native.Nat.{ℕ, zero, suc, ◌<◌, ◌≤◌}
use native.Mathlib.Omega.{arith}
use lib.Dec.{eqb}
use borrow.Author.Tests.{ne_eqb}
use Rattle.meaning.specs.Words.{word, code_of, entry_of, Sign, plus, minus, Step, double, load, add, bad, step_by, step_of, signed, word_of}
use Rattle.walk.specs.Steps.{Below, Coded, is_double, is_addition}

-- ---- the step of a word
pub step_is : (x c e : ℕ) → code_of x ≡ c → entry_of x ≡ e → step_by c e ≡ step_of x
unfolding step_of
step_is x c e p q = sym (ap (λ n. step_by n (entry_of x)) p ∙ ap (step_by c) q)

-- what each step says of its word's code and entry
abbrev pub Says : Step → (code e : ℕ) → Type 0
Says double code e = (code ≡ 0) × (e ≡ 0)
Says (load s n) code e = (code ≡ signed s 1) × (e ≡ n)
Says (add s n) code e = (code ≡ signed s 3) × (e ≡ n)
Says bad code e = (4 < code) ⊎ ((code ≡ 0) × (0 < e))

pub step_says : (x : ℕ) → Says (step_of x) (code_of x) (entry_of x)
unfolding step_of
step_says x = by (code_of x) (entry_of x)
  where
    by : (c e : ℕ) → Says (step_by c e) c e
    by zero zero = (refl, refl)
    by zero (suc e) = inr (refl, omega arith)
    by (suc zero) e = (refl, refl)
    by (suc (suc zero)) e = (refl, refl)
    by (suc (suc (suc zero))) e = (refl, refl)
    by (suc (suc (suc (suc zero)))) e = (refl, refl)
    by (suc (suc (suc (suc (suc c))))) e = inl (omega arith)

-- a double with an entry, and a code over 4, are bad
pub bad_double : (x : ℕ) → code_of x ≡ 0 → entry_of x ≢ 0 → bad ≡ step_of x
bad_double x p n = by (entry_of x) n ∙ step_is x 0 (entry_of x) p refl
  where
    by : (e : ℕ) → e ≢ 0 → bad ≡ step_by 0 e
    by zero n = absurd (n refl)
    by (suc e) n = refl

pub bad_code : (x : ℕ) → 4 < code_of x → bad ≡ step_of x
bad_code x h = by (code_of x) h ∙ step_is x (code_of x) (entry_of x) refl refl
  where
    by : (c : ℕ) → 4 < c → bad ≡ step_by c (entry_of x)
    by zero h = absurd (omega arith)
    by (suc zero) h = absurd (omega arith)
    by (suc (suc zero)) h = absurd (omega arith)
    by (suc (suc (suc zero))) h = absurd (omega arith)
    by (suc (suc (suc (suc zero)))) h = absurd (omega arith)
    by (suc (suc (suc (suc (suc c))))) h = refl

-- a minus has the next code
pub signed_le : (s : Sign) (c : ℕ) → (c ≤ signed s c) × (signed s c ≤ suc c)
signed_le plus c = (omega arith, omega arith)
signed_le minus c = (omega arith, omega arith)

-- its entry is the word's
pub step_below : (count x : ℕ) → entry_of x < count → Below count (step_of x)
step_below count x h = go (step_of x) (step_says x)
  where
    go : (t : Step) → Says t (code_of x) (entry_of x) → Below count t
    go double s = tt
    go (load g e) s = omega (arith, s.1)
    go (add g e) s = omega (arith, s.1)
    go bad s = tt

-- ---- the word of a step
-- read back
pub word_back : (t : Step) → Coded t → step_of (word_of t) ≡ t
word_back double h = sym (step_is 0 0 0 refl refl)
word_back (load plus e) h = sym (step_is (word 1 e) 1 e (omega arith) (omega arith))
word_back (load minus e) h = sym (step_is (word 2 e) 2 e (omega arith) (omega arith))
word_back (add plus e) h = sym (step_is (word 3 e) 3 e (omega arith) (omega arith))
word_back (add minus e) h = sym (step_is (word 4 e) 4 e (omega arith) (omega arith))
word_back bad h = sym (bad_code (word 15 0) (omega arith))

-- and a word is that of its step, unless it is bad
pub back_word : (x : ℕ) → step_of x ≢ bad → Coded (step_of x) × (word_of (step_of x) ≡ x)
back_word x n = go (step_of x) (step_says x) n
  where
    go : (t : Step) → Says t (code_of x) (entry_of x) → t ≢ bad → Coded t × (word_of t ≡ x)
    go double (c, e) n = (tt, omega arith)
    go (load s k) (c, e) n = (omega arith, omega arith)
    go (add s k) (c, e) n = (omega arith, omega arith)
    go bad h n = absurd (n refl)

-- ---- what a step counts
pub record Counts (x d k : ℕ) : Type 0 where
  pub doubles : is_double x ≡ d
  pub adds : is_addition x ≡ k

by_code : (x c : ℕ) → code_of x ≡ c → Counts x (cond (eqb c 0) 1 0) (cond (eqb c 3 || eqb c 4) 1 0)
by_code x c e = record { doubles = ap (λ t. cond (eqb t 0) 1 0) e; adds = ap (λ t. cond (eqb t 3 || eqb t 4) 1 0) e }

pub counts_double : (x : ℕ) → code_of x ≡ 0 → Counts x 1 0
counts_double x e = by_code x 0 e

pub counts_load : (x : ℕ) (s : Sign) → code_of x ≡ signed s 1 → Counts x 0 0
counts_load x plus e = by_code x 1 e
counts_load x minus e = by_code x 2 e

pub counts_add : (x : ℕ) (s : Sign) → code_of x ≡ signed s 3 → Counts x 0 1
counts_add x plus e = by_code x 3 e
counts_add x minus e = by_code x 4 e

pub counts_over : (x : ℕ) → 4 < code_of x → Counts x 0 0
counts_over x h =
    record {
      doubles = ap (λ b. cond b 1 0) (ne_eqb (code_of x) 0 (λ e. omega arith));
      adds = ap (λ b. cond (b || eqb (code_of x) 4) 1 0) (ne_eqb (code_of x) 3 (λ e. omega arith)) ∙ ap (λ b. cond (false || b) 1 0) (ne_eqb (code_of x) 4 (λ e. omega arith));
    }

-- at most one of either
pub counts_few : (x : ℕ) → (is_double x ≤ 1) × (is_addition x ≤ 1)
counts_few x = (few (eqb (code_of x) 0), few (eqb (code_of x) 3 || eqb (code_of x) 4))
  where
    few : (b : Bool) → cond b 1 0 ≤ 1
    few true = omega arith
    few false = omega arith

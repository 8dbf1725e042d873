-- A run's steps, over any carrier: the value, and the doublings and additions done. And the entry of a step.
-- Assumes nothing.
use Rattle.std.specs.Prelude.{◌≡◌, cond, ◌||◌, List, ℕ, ◌+◌, ◌<◌, eqb}
use Rattle.meaning.specs.Words.{code_of, Step, double, load, add, bad, step_of}
use Rattle.meaning.specs.Walks.{Carrier, Table, taken, walk, doublings, additions}

-- the entry of a step is below `count`
abbrev pub Below : (count : ℕ) → Step → Type 0
Below count double = Unit
Below count (load s e) = e < count
Below count (add s e) = e < count
Below count bad = Unit

-- it lies in the twelve bits that a word has for it
abbrev pub Coded : Step → Type 0
Coded t = Below 4096 t

-- 1 for a word of code 0, and 1 for one of code 3 or 4
abbrev pub is_double : ℕ → ℕ
is_double x = cond (eqb (code_of x) 0) 1 0

abbrev pub is_addition : ℕ → ℕ
is_addition x = cond (eqb (code_of x) 3 || eqb (code_of x) 4) 1 0

-- one word x: from a, d and k to b, f and l
pub record Stepped {A : Type 0} (C : Carrier A) (table : Table A) (x : ℕ) (a : A) (d k : ℕ) (b : A) (f l : ℕ) : Type 0 where
  pub value_is : b ≡ taken C table a (step_of x)
  pub doublings_are : f ≡ d + is_double x
  pub additions_are : l ≡ k + is_addition x

-- all words: the walk's value, and what the words count
pub record Reached {A : Type 0} (C : Carrier A) (table : Table A) (ws : List ℕ) (a : A) (d k : ℕ) : Type 0 where
  pub value_is : a ≡ walk C table ws
  pub doublings_are : d ≡ doublings ws
  pub additions_are : k ≡ additions ws

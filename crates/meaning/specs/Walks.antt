-- The walk of a tape, over any carrier: the words tell what is done, a table has the entries. A tape's value is its walk over the whole numbers; each run is its walk over another
-- carrier. And what a tape's words count.
-- Assumes nothing.
use Rattle.std.specs.Prelude.{◌≡◌, ◌≢◌, cond, ◌||◌, List, [], ◌∷◌, ℕ, ◌+◌, ◌*◌, ◌≤◌, ◌<◌, eqb, ℤ, pos, neg_ℤ, ◌+ℤ◌, ◌*ℤ◌}
use Rattle.meaning.specs.Words.{code_of, entry_of, Sign, plus, minus, Step, double, load, add, bad, step_of}

-- what a walk needs: what no words leave, a double, an addition
pub record Carrier (A : Type 0) : Type 0 where
  pub none : A
  pub dbl : A → A
  pub add : A → A → A

-- the entries, by sign and number
abbrev pub Table : Type 0 → Type 0
Table A = Sign → ℕ → A

-- a table of some entries, and of the same ones negated
abbrev pub by_sign : {A : Type 0} → (ℕ → A) → (ℕ → A) → Table A
by_sign f g plus = f
by_sign f g minus = g

-- one step: a load sets the value, a double doubles it, an add changes it by the entry
unfoldable pub taken : {A : Type 0} → Carrier A → Table A → A → Step → A
taken C table a double = C.dbl a
taken C table a (load s e) = table s e
taken C table a (add s e) = C.add a (table s e)
taken C table a bad = a

-- all words, from a on
unfoldable pub walked : {A : Type 0} → Carrier A → Table A → A → List ℕ → A
walked C table a [] = a
walked C table a (x ∷ xs) = walked C table (taken C table a (step_of x)) xs

-- the whole walk
abbrev pub walk : {A : Type 0} → Carrier A → Table A → List ℕ → A
walk C table ws = walked C table C.none ws

-- ---- a tape's value: the whole number that it leaves, 0 with no words
abbrev pub wholes : Carrier ℤ
wholes = record { none = pos 0; dbl = λ z. pos 2 *ℤ z; add = ◌+ℤ◌ }

-- entry e stands for the odd multiple 2 e + 1
abbrev pub multiple : ℕ → ℕ
multiple e = 2 * e + 1

abbrev pub odds : Table ℤ
odds = by_sign (λ e. pos (multiple e)) (λ e. neg_ℤ (pos (multiple e)))

abbrev pub tape_value : List ℕ → ℤ
tape_value ws = walk wholes odds ws

-- ---- its counts
-- a tape's doublings are its words of code 0
unfoldable pub doublings : List ℕ → ℕ
doublings [] = 0
doublings (x ∷ xs) = cond (eqb (code_of x) 0) 1 0 + doublings xs

-- and its additions those of code 3 or 4; the load is none
unfoldable pub additions : List ℕ → ℕ
additions [] = 0
additions (x ∷ xs) = cond (eqb (code_of x) 3 || eqb (code_of x) 4) 1 0 + additions xs

-- ---- good words
-- a code that is a load
abbrev pub IsLoad : ℕ → Type 0
IsLoad c = (1 ≤ c) × (c ≤ 2)

-- the word x at index i is good where there are `count` entries: its code is 0..4, its entry below `count`, a double's entry 0, and it is a load exactly when it is the first word
pub record Good (count i x : ℕ) : Type 0 where
  pub code : code_of x ≤ 4
  pub entry : entry_of x < count
  pub double : code_of x ≡ 0 → entry_of x ≡ 0
  pub first : i ≡ 0 → IsLoad (code_of x)
  pub later : i ≢ 0 → IsLoad (code_of x) → ⊥

-- Refusals: a call tries its own rules in the order in which they are listed and gives the number and the place of the first that applies; 0 is acceptance.
-- The rules of each call stand beside what the call returns. 6 was struck and is not used again: n + 1 places always suffice. Assumes nothing.
use Rattle.std.specs.Prelude.{◌≡◌, ◌⊎◌, List, [], ◌∷◌, ℕ, zero, suc, ◌<◌, length}
use Rattle.meaning.specs.Scalars.{most_bytes}
use Rattle.meaning.specs.Digits.{least_width, most_width}
use Rattle.meaning.specs.Sets.{Pair}

-- a rule: a refusal's number, and when it is given: plainly, and the place is 0; or where something holds of a place, and the place is the lowest such
pub data Rule : Type 1 where
  plain : (number : ℕ) → Type 0 → Rule
  lowest : (number : ℕ) → (ℕ → Type 0) → Rule

abbrev pub number_of : Rule → ℕ
number_of (plain n C) = n
number_of (lowest n C) = n

-- C holds of p, and of no lower place
abbrev pub Lowest : (ℕ → Type 0) → ℕ → Type 0
Lowest C p = C p × ((q : ℕ) → q < p → C q → ⊥)

-- the rule applies, at place p
abbrev pub Applies : Rule → ℕ → Type 0
Applies (plain n C) p = C × (p ≡ 0)
Applies (lowest n C) p = Lowest C p

-- it does not apply
abbrev pub Fails : Rule → Type 0
Fails (plain n C) = C → ⊥
Fails (lowest n C) = (p : ℕ) → C p → ⊥

-- r and p are the number and the place of the first rule that applies, and both 0 where none does
abbrev pub First : List Rule → ℕ → ℕ → Type 0
First [] r p = (r ≡ 0) × (p ≡ 0)
First (x ∷ xs) r p = ((r ≡ number_of x) × Applies x p) ⊎ (Fails x × First xs r p)

-- a field beside the number and the place: x on acceptance, 0 in a refusal
abbrev pub granted : ℕ → ℕ → ℕ
granted zero x = x
granted (suc r) x = 0

-- lent memory: written on acceptance, as lent in a refusal
abbrev pub kept : {A : Type 0} → ℕ → List A → List A → List A
kept zero written lent = written
kept (suc r) written lent = lent

-- ---- rules that several calls have
-- 2: width outside 2..8
abbrev pub bad_width : ℕ → Rule
bad_width w = plain 2 ((w < least_width) ⊎ (most_width < w))

-- 22, directly after 2: no set has this width and this largest digit
abbrev pub bad_set : (w m : ℕ) → Rule
bad_set w m = plain 22 (Pair w m → ⊥)

-- so a call that takes a set begins with these
abbrev pub set_rules : (w m : ℕ) → List Rule
set_rules w m = bad_width w ∷ bad_set w m ∷ []

-- 3: scalar over 66 bytes
abbrev pub long_scalar : List ℕ → Rule
long_scalar s = plain 3 (most_bytes < length s)

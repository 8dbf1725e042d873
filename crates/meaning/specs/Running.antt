-- The run of a tape over residues modulo m: the multiples of the base, the residue reached and the steps reported.
-- Assumes nothing.
use Rattle.std.specs.Prelude.{◌≡◌, ◌≢◌, List, [], ◌∷◌, ◌++◌, ℕ, ◌*◌, ◌%◌, ◌<◌, ℤ, pos, ◌+ℤ◌, ◌*ℤ◌, length, get_or, drop}
use Rattle.meaning.specs.Digits.{entries, listed}
use Rattle.meaning.specs.Refusals.{Rule, plain, lowest, First, granted, kept, set_rules}
use Rattle.meaning.specs.Words.{most_words}
use Rattle.meaning.specs.Walks.{multiple, tape_value, doublings, additions, Good}
use Rattle.meaning.specs.Multiples.{Cost, cost_of}

-- the word at index p is bad
pub record BadWord (count : ℕ) (ws : List ℕ) (p : ℕ) : Type 0 where
  pub within : p < length ws
  pub bad : Good count p (get_or ws p 0) → ⊥

-- after those of the set 12: modulus 0; 13: tape over 1,057 words; 14: multiples buffer under `count` entries; 15: a bad word; place is the first such
abbrev pub step_rules : (count : ℕ) (ws : List ℕ) (m room : ℕ) → List Rule
step_rules count ws m room = plain 12 (m ≡ 0) ∷ plain 13 (most_words < length ws) ∷ plain 14 (room < count) ∷ lowest 15 (BadWord count ws) ∷ []

-- l is the largest digit of the set, which has an entry for each positive digit
abbrev pub run_rules : (w l : ℕ) (ws : List ℕ) (m room : ℕ) → List Rule
run_rules w l ws m room = set_rules w l ++ step_rules (entries l) ws m room

-- x is the least nonnegative residue of z modulo m
pub record Residue (m : ℕ) (z : ℤ) (x : ℕ) : Type 0 where
  pub quotient : ℤ
  pub is : z ≡ pos m *ℤ quotient +ℤ pos x
  pub least : x < m

-- so many multiples (2 e + 1) · g mod m
unfoldable pub multiples_of : (count m g : ℕ) → List ℕ
multiples_of count m g = listed (λ e. multiple e * g % m) 0 count

-- what the call answers: the residue reached, the doublings and additions done, and beside them what the multiples cost
pub record Ran : Type 0 where
  pub refusal : ℕ
  pub place : ℕ
  pub residue : ℕ
  pub doublings : ℕ
  pub additions : ℕ
  pub cost : Cost

-- what a tape comes to: how often it takes a base, and the sum where there is more than one
pub data Taking : Type 0 where
  times : ℤ → (base : ℕ) → Taking

abbrev pub total : List Taking → ℤ
total [] = pos 0
total (times z g ∷ []) = z *ℤ pos g
total (times z g ∷ t ∷ ts) = z *ℤ pos g +ℤ total (t ∷ ts)

-- by these rules, over `count` stored entries which cost so much; and the buffer afterwards
pub record RunBy (rules : List Rule) (count : ℕ) (ws : List ℕ) (m : ℕ) (sum : List Taking) (cost : Cost) (stored multiples₀ : List ℕ) (a : Ran) (multiples : List ℕ) : Type 0 where
  pub first : First rules a.refusal a.place
  pub residue_is : a.refusal ≡ 0 → Residue m (total sum) a.residue
  pub residue_none : a.refusal ≢ 0 → a.residue ≡ 0
  pub doublings_are : a.doublings ≡ granted a.refusal (doublings ws)
  pub additions_are : a.additions ≡ granted a.refusal (additions ws)
  pub cost_doublings_are : a.cost.doublings ≡ granted a.refusal cost.doublings
  pub cost_additions_are : a.cost.additions ≡ granted a.refusal cost.additions
  pub multiples_are : multiples ≡ kept a.refusal (stored ++ drop count multiples₀) multiples₀

-- over the multiples of one base, which is taken as often as the tape's value says
abbrev pub RunOver : (rules : List Rule) (count : ℕ) (ws : List ℕ) (m g : ℕ) (multiples₀ : List ℕ) (a : Ran) (multiples : List ℕ) → Type 0
RunOver rules count ws m g multiples₀ a multiples = RunBy rules count ws m (times (tape_value ws) g ∷ []) (cost_of count) (multiples_of count m g) multiples₀ a multiples

abbrev pub Run : (w l : ℕ) (ws : List ℕ) (m g : ℕ) (multiples₀ : List ℕ) (a : Ran) (multiples : List ℕ) → Type 0
Run w l ws m g multiples₀ a multiples = RunOver (run_rules w l ws m (length multiples₀)) (entries l) ws m g multiples₀ a multiples

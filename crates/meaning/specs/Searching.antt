-- The cross-check: a plain search for the least weight of a small number.
-- Assumes nothing.
use Rattle.std.specs.Prelude.{◌≡◌, ◌≢◌, List, [], ◌∷◌, ℕ, ◌≤◌, ◌<◌, T, ℤ, pos, length}
use Rattle.meaning.specs.Digits.{largest, all_in, worth, weight}
use Rattle.meaning.specs.Refusals.{Rule, plain, First}

-- it always looks at strings of nine places
abbrev pub search_places : ℕ
search_places = 9

-- 2: width not 2 or 3; 3: number over 127
abbrev pub search_rules : (number w : ℕ) → List Rule
search_rules number w = plain 2 ((w ≢ 2) × (w ≢ 3)) ∷ plain 3 (127 < number) ∷ []

-- ds is a string of D_w digits on this many places that is worth z
pub record Spells (w places : ℕ) (z : ℤ) (ds : List ℤ) : Type 0 where
  pub length_is : length ds ≡ places
  pub is_in_set : T (all_in (largest w) ds)
  pub worth_is : worth ds ≡ z

-- k is the least weight of any such string
pub record LeastWeight (w places : ℕ) (z : ℤ) (k : ℕ) : Type 0 where
  pub string : List ℤ
  pub spells : Spells w places z string
  pub weight_is : weight string ≡ k
  pub least : (ds : List ℤ) → Spells w places z ds → k ≤ weight ds

-- what the call answers
pub record Searched : Type 0 where
  pub refusal : ℕ
  pub weight : ℕ

pub record Search (number w : ℕ) (a : Searched) : Type 0 where
  pub first : First (search_rules number w) a.refusal 0
  pub accepted : a.refusal ≡ 0 → LeastWeight w search_places (pos number) a.weight
  pub refused : a.refusal ≢ 0 → a.weight ≡ 0

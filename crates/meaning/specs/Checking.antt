-- The checks of a string made elsewhere: plain, and nonadjacent. They return weight and top, and write nothing.
-- Assumes nothing.
use Rattle.std.specs.Prelude.{◌≡◌, ◌≢◌, not, List, [], ◌∷◌, ◌++◌, ℕ, ◌+◌, ◌<◌, T, ℤ, pos, length, get_or}
use Rattle.meaning.specs.Scalars.{Order, number}
use Rattle.meaning.specs.Digits.{most_places, in_set, worth, weight, top, Tally}
use Rattle.meaning.specs.Refusals.{Rule, plain, lowest, First, granted, set_rules, long_scalar}

-- ---- refusals
-- 7: digit string over 529 places
abbrev pub long_string : List ℤ → Rule
long_string ds = plain 7 (most_places < length ds)

-- the digit at place p is not in the set of the largest digit m
pub record BadDigit (m : ℕ) (ds : List ℤ) (p : ℕ) : Type 0 where
  pub within : p < length ds
  pub bad : T (not (in_set m (get_or ds p (pos 0))))

-- 8: a digit not in the set; place is the lowest such
abbrev pub bad_digit : ℕ → List ℤ → Rule
bad_digit m ds = lowest 8 (BadDigit m ds)

-- the digit at place p and a higher one fewer than w places away are both nonzero
pub record Crowded (w : ℕ) (ds : List ℤ) (p : ℕ) : Type 0 where
  pub other : ℕ
  pub above : p < other
  pub near : other < p + w
  pub here : get_or ds p (pos 0) ≢ pos 0
  pub there : get_or ds other (pos 0) ≢ pos 0

-- those of a string: 7, 8, then 9: string not worth the scalar
abbrev pub string_rules : (m : ℕ) (o : Order) (s : List ℕ) (ds : List ℤ) → List Rule
string_rules m o s ds = long_string ds ∷ bad_digit m ds ∷ plain 9 (worth ds ≢ pos (number o s)) ∷ []

-- after those of the set 3, then those of the string
abbrev pub worth_rules : (m : ℕ) (o : Order) (s : List ℕ) (ds : List ℤ) → List Rule
worth_rules m o s ds = long_scalar s ∷ string_rules m o s ds

abbrev pub check_rules : (w m : ℕ) (o : Order) (s : List ℕ) (ds : List ℤ) → List Rule
check_rules w m o s ds = set_rules w m ++ worth_rules m o s ds

-- the nonadjacent check adds 10: two nonzero digits fewer than w places apart; place is the lower of the lowest such pair
abbrev pub spaced_rules : (w : ℕ) (ds : List ℤ) → List Rule
spaced_rules w ds = lowest 10 (Crowded w ds) ∷ []

abbrev pub nonadjacent_rules : (w m : ℕ) (o : Order) (s : List ℕ) (ds : List ℤ) → List Rule
nonadjacent_rules w m o s ds = check_rules w m o s ds ++ spaced_rules w ds

-- ---- what a check by these rules returns
pub record Check (rules : List Rule) (ds : List ℤ) (a : Tally) : Type 0 where
  pub first : First rules a.refusal a.place
  pub weight_is : a.weight ≡ granted a.refusal (weight ds)
  pub top_is : a.top ≡ granted a.refusal (top ds)

-- The lighter of two strings that were made for one scalar: a part of one of the two, cut above its highest nonzero place.
-- Assumes nothing.
use Rattle.std.specs.Prelude.{◌≡◌, cond, List, ◌∷◌, ◌++◌, ℕ, zero, suc, leb, ℤ, take}
use Rattle.meaning.specs.Scalars.{Order}
use Rattle.meaning.specs.Digits.{largest, weight, top}
use Rattle.meaning.specs.Refusals.{Rule, First, granted, bad_width, long_scalar}
use Rattle.meaning.specs.Checking.{string_rules}

-- one of two strings: 0 is the first, anything else the second
abbrev pub one_of : ℕ → (x y : List ℤ) → List ℤ
one_of zero x y = x
one_of (suc k) x y = y

-- which of the two is the lighter: the first, also on a tie, or the second
unfoldable pub lighter_of : (x y : List ℤ) → ℕ
lighter_of x y = cond (leb (weight x) (weight y)) 0 1

-- 2, 3, then 7, 8, 9 for the first string, then 7, 8, 9 for the second
abbrev pub lighter_rules : (w : ℕ) (o : Order) (s : List ℕ) (x y : List ℤ) → List Rule
lighter_rules w o s x y = bad_width w ∷ long_scalar s ∷ (string_rules (largest w) o s x ++ string_rules (largest w) o s y)

-- what is answered: which string, and how many of its places, up to its highest nonzero one
pub record Picked : Type 0 where
  pub refusal : ℕ
  pub which : ℕ
  pub places : ℕ

-- in a refusal no place of the first
pub record Pick (w : ℕ) (o : Order) (s : List ℕ) (x y : List ℤ) (a : Picked) : Type 0 where
  pub place : ℕ
  pub first : First (lighter_rules w o s x y) a.refusal place
  pub which_is : a.which ≡ granted a.refusal (lighter_of x y)
  pub places_are : a.places ≡ granted a.refusal (top (one_of (lighter_of x y) x y))

-- the part that is handed back
pub record Lighter (w : ℕ) (o : Order) (s : List ℕ) (x y part : List ℤ) : Type 0 where
  pub picked : Picked
  pub pick : Pick w o s x y picked
  pub part_is : part ≡ take picked.places (one_of picked.which x y)

-- and the number that a second call on the same input gives, 0 if the first was accepted
pub record LighterRefusal (w : ℕ) (o : Order) (s : List ℕ) (x y : List ℤ) (r : ℕ) : Type 0 where
  pub picked : Picked
  pub pick : Pick w o s x y picked
  pub number_is : r ≡ picked.refusal

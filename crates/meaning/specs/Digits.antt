-- Digit strings, place 0 first, place j worth 2 ^ j: the digit set of a width, what a string is worth, its weight, its top, and the spacing of its nonzeros.
-- Assumes nothing.
use Rattle.std.specs.Prelude.{◌≡◌, ◌≢◌, Bool, true, ◌&&◌, ◌||◌, List, [], ◌∷◌, ℕ, zero, suc, ◌+◌, ◌-◌, ◌/◌, ◌%◌, ◌^◌, ◌<◌, leb, eqb, ℤ, pos, negsuc, nat_abs, ◌+ℤ◌, ◌*ℤ◌, get_or}

-- ---- limits
-- the smallest and the largest width
abbrev pub least_width : ℕ
least_width = 2

abbrev pub most_width : ℕ
most_width = 8

-- the most places of a string
abbrev pub most_places : ℕ
most_places = 529

-- ---- digits
-- a digit set by its largest digit m: 0 and the odd numbers of absolute value at most m
unfoldable pub in_set : ℕ → ℤ → Bool
in_set m d = eqb (nat_abs d) 0 || (eqb (nat_abs d % 2) 1 && leb (nat_abs d) m)

-- the largest digit of D_w, whose odd digits have an absolute value below 2 ^ (w - 1)
abbrev pub largest : ℕ → ℕ
largest w = 2 ^ (w - 1) - 1

-- how many positive digits the set of the largest digit m has: the chip has an entry for each
abbrev pub entries : ℕ → ℕ
entries m = (m + 1) / 2

-- every digit of the string is in the set
unfoldable pub all_in : ℕ → List ℤ → Bool
all_in m [] = true
all_in m (d ∷ ds) = in_set m d && all_in m ds

-- ---- strings
-- the sum of the digits, each times 2 ^ its place
unfoldable pub worth : List ℤ → ℤ
worth [] = pos 0
worth (d ∷ ds) = d +ℤ pos 2 *ℤ worth ds

-- 1 for a digit that is not 0, and 0 for 0
unfoldable pub nonzero : ℤ → ℕ
nonzero (pos zero) = 0
nonzero (pos (suc n)) = 1
nonzero (negsuc n) = 1

-- the number of nonzero digits
unfoldable pub weight : List ℤ → ℕ
weight [] = 0
weight (d ∷ ds) = nonzero d + weight ds

-- the top over a lowest place, by what the places above it have
abbrev pub over : ℕ → ℕ → ℕ
over here zero = here
over here (suc t) = suc (suc t)

-- 1 + the highest nonzero place, 0 if there is none
unfoldable pub top : List ℤ → ℕ
top [] = 0
top (d ∷ ds) = over (nonzero d) (top ds)

-- what recode and the checks answer: the number of a refusal and its place, and on acceptance the weight and the top
pub record Tally : Type 0 where
  pub refusal : ℕ
  pub place : ℕ
  pub weight : ℕ
  pub top : ℕ

-- any w consecutive places hold at most one nonzero: of two places fewer than w apart one holds 0
pub record Apart (w : ℕ) (ds : List ℤ) : Type 0 where
  pub one_of : (i j : ℕ) → i < j → j < i + w → get_or ds i (pos 0) ≢ pos 0 → get_or ds j (pos 0) ≡ pos 0

-- the values of f at n places from place i on, as a list
unfoldable pub listed : {A : Type 0} → (ℕ → A) → ℕ → ℕ → List A
listed f i zero = []
listed f i (suc n) = f i ∷ listed f (suc i) n

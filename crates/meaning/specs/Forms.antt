-- The forms, and their numbers.
-- Assumes nothing.
use Rattle.std.specs.Prelude.{◌≡◌, List, ℕ, zero, suc, ℤ}
use Rattle.meaning.specs.Mof as Mof
use Rattle.meaning.specs.Wnaf as Wnaf
use Rattle.meaning.specs.Fractional as Fractional
use Rattle.meaning.specs.Wmof as Wmof
use Rattle.meaning.specs.Closest as Closest
use Rattle.meaning.specs.Closest.{Tie, larger, smaller}

pub data Kind : Type 0 where
  mof : Kind
  wnaf : Kind
  wmof : Kind
  closest : Tie → Kind

-- what a string is of a number on so many places
abbrev pub Strings : Type 1
Strings = (N n : ℕ) → List ℤ → Type 0

-- ds is N in this form at width w, on n + 1 places, where S is what wNAF is
unfoldable pub Has : Strings → Kind → (w N n : ℕ) → List ℤ → Type 0
Has S mof w N n ds = ds ≡ Mof.mof N n
Has S wnaf w N n ds = S N n ds
Has S wmof w N n ds = ds ≡ Wmof.wmof w N n
Has S (closest tie) w N n ds = Closest.Closest tie w N n ds

-- what a number asks for: 1 MOF, 2 wNAF, 3 wMOF, 4 closest, on a tie the larger, 5 closest, on a tie the smaller
pub data Asked : Type 0 where
  one : Kind → Asked
  nothing : Asked

unfoldable pub asked : ℕ → Asked
asked zero = nothing
asked (suc zero) = one mof
asked (suc (suc zero)) = one wnaf
asked (suc (suc (suc zero))) = one wmof
asked (suc (suc (suc (suc zero)))) = one (closest larger)
asked (suc (suc (suc (suc (suc zero))))) = one (closest smaller)
asked (suc (suc (suc (suc (suc (suc f)))))) = nothing

-- the last number that asks for a form
abbrev pub most_form : ℕ
most_form = 5

-- ds has what is asked for
abbrev pub Given : Strings → Asked → (w N n : ℕ) → List ℤ → Type 0
Given S (one k) w N n ds = Has S k w N n ds
Given S nothing w N n ds = ⊥

-- ds is N in the form of this number at width w, on n + 1 places
abbrev pub Form : (form w : ℕ) → Strings
Form form w N n ds = Given (Wnaf.Wnaf w) (asked form) w N n ds

-- and in the set of width w and largest digit m: wNAF goes by the rule of the set, the other forms by the width
abbrev pub FormIn : (form w m : ℕ) → Strings
FormIn form w m N n ds = Given (Fractional.Fractional w m) (asked form) w N n ds

-- The code's steps as those of the meaning, and the move of a digit.
-- Assumes nothing.
use Rattle.std.specs.Prelude.{◌≡◌, ℤ}
use Rattle.meaning.specs.Words as Words
use Rattle.meaning.specs.Words.{plus, minus, double, load, add, bad}
use Rattle.meaning.specs.Taping.{entry, sign_of}
use Rattle.tape.specs.declared.Sign.{Sign}
use Rattle.tape.specs.declared.Sign.TheVariants.{Plus, Minus}
use Rattle.tape.specs.declared.Move.{Move}
use Rattle.tape.specs.declared.Step.{Step}
use Rattle.tape.specs.declared.Step.TheVariants.{Double, Load, Add, Bad}

abbrev pub side : Sign → Words.Sign
side Plus = plus
side Minus = minus

-- each case of the enum
abbrev pub told : Step → Words.Step
told Double = double
told (Load m) = load (side m.sign) m.entry
told (Add m) = add (side m.sign) m.entry
told Bad = bad

-- the move of the digit d
pub record Moves (d : ℤ) (m : Move) : Type 0 where
  pub entry_is : m.entry ≡ entry d
  pub sign_is : side m.sign ≡ sign_of d

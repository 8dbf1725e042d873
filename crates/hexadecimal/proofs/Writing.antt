-- What is written: a byte's pair and then the rest; a digit's byte by its size, and the digit of a byte. Assumes nothing.
use mathlib.Core.Path.{◌≡◌, refl, sym, ap}
use mathlib.Core.Bool.{Bool, true, false, cond}
use mathlib.Core.List.{List, [], ◌∷◌}
use Prim.Native.Nat.{ℕ, suc, ◌+◌, ◌*◌, ◌-◌}
use native.Mathlib.Omega.{arith}
use lib.Dec.{ltb}
use lib.IntN.{ℤ, pos, negsuc}
use lib.ListN.{length}
use lib.Seq.{sets}
use mir.Syntax.{w8}
use mir.Val.{to_z, of_z, sel}
use Rattle.meaning.specs.Hexadecimal.{pair, written}
use Rattle.meaning.specs.Frames.{byte_of, digit_of}

-- ---- bytes
-- a pair, and what follows it
pub pair_then : (out : List ℕ) (at b : ℕ) (cs : List ℕ) → sets out at (pair b cs) ≡ sets (sets out at (pair b [])) (at + 2) cs
pair_then out at b cs =
    let e : suc (suc at) ≡ at + 2 = omega arith in
    ap (λ k. sets (sets out at (pair b [])) k cs) e

pub written_length : (bs : List ℕ) → length (written bs) ≡ 2 * length bs
unfolding written
written_length [] = refl
written_length (b ∷ bs) = omega (arith, written_length bs)

-- a number's two bytes
pub number_then : (out : List ℕ) (at h l : ℕ) → sets (sets out at (pair h [])) (at + 2) (pair l []) ≡ sets out at (written (h ∷ l ∷ []))
unfolding written
number_then out at h l = sym (pair_then out at h (pair l []))

-- ---- digits and bytes, in two's complement
pub digit_byte : (d : ℤ) → of_z w8 d ≡ byte_of d
unfolding byte_of
digit_byte (pos n) = refl
digit_byte (negsuc n) = omega arith

pub byte_digit : (b : ℕ) → to_z w8 b ≡ digit_of b
unfolding digit_of
byte_digit b = go (ltb b 128)
  where
    go : (f : Bool) → sel f (pos b) (negsuc (256 - suc b)) ≡ cond f (pos b) (negsuc (255 - b))
    go true = refl
    go false = ap negsuc (omega arith)

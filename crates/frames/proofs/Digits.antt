-- The digit of a byte that is 0, as code finds it. Assumes nothing.
use mathlib.Core.Path.{◌≡◌, ap}
use Prim.Native.Nat.{ℕ, ◌<◌}
use native.Mathlib.Decide.{dec_lt}
use native.Mathlib.Omega.{arith}
use borrow.Author.Tests.{lt-ltb, le-ltb}
use lib.IntN.{pos}
use mir.Syntax.{w8}
use mir.Val.{of_z}
use Rattle.meaning.specs.Frames.{digit_of}

pub digit_zero : (b : ℕ) → of_z w8 (digit_of b) ≡ 0 → digit_of b ≡ pos 0
unfolding digit_of
digit_zero b = go (dec_lt b 128)
  where
    go : Dec (b < 128) → of_z w8 (digit_of b) ≡ 0 → digit_of b ≡ pos 0
    go (yes l) = rw (lt-ltb b 128 l) (λ h. ap pos h)
    go (no l) = rw (le-ltb b 128 (omega arith)) (λ h. absurd (omega arith))

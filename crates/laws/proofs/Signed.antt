-- Signed machine numbers: a small number as a signed one, with or without its sign changed; and the bits of one that is 0. Assumes nothing.
use mathlib.Core.Path.{◌≡◌, ap, sym, ◌∙◌}
use Prim.Native.Nat.{ℕ, zero, suc, ◌^◌, ◌<◌}
use native.Mathlib.Omega.{arith}
use lib.Pow.{pow_pos}
use lib.Signed.{mag}
use lib.IntN.{ℤ, pos, neg_ℤ, ◌-ℤ◌, +ℤ_idl}
use mir.Syntax.{Width}
use mir.Val.{SFits, to_z, of_z, hbits}
use mir.Facts.{to_z-of_z}

-- ---- a number below half of the width's range
module _ (w : Width) (n : ℕ) (h : n < 2 ^ hbits w) where
  -- as it is
  pub plain_is : to_z w n ≡ pos n
  plain_is = to_z-of_z {w = w} {z = pos n} (record { sfits = h })

  neg_mag : (k : ℕ) → k < 2 ^ hbits w → mag (neg_ℤ (pos k)) < 2 ^ hbits w
  neg_mag zero l = l
  neg_mag (suc k) l = omega arith

  -- and taken from 0
  pub negated_is : pos 0 -ℤ to_z w n ≡ neg_ℤ (pos n)
  negated_is = rw plain_is (+ℤ_idl (neg_ℤ (pos n)))

  pub negated_fits : SFits w (pos 0 -ℤ to_z w n)
  negated_fits = rw negated_is (record { sfits = neg_mag n h })

-- ---- a signed number's bits are 0 where it is
pub bits_none : (w : Width) (z : ℤ) → SFits w z → of_z w z ≡ 0 → z ≡ pos 0
bits_none w z f e = sym (to_z-of_z f) ∙ ap (to_z w) e ∙ to_z-of_z {w = w} {z = pos 0} (record { sfits = pow_pos (hbits w) })

-- and only there
pub bits_some : (w : Width) (z : ℤ) → (of_z w z ≡ 0 → ⊥) → z ≡ pos 0 → ⊥
bits_some w z n e = n (ap (of_z w) e)

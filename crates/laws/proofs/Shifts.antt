-- Powers of two as code shifts them, within any number of bits: none is lost.
-- Assumes nothing.
use mathlib.Core.Path.{◌≡◌, sym, ap, ◌∙◌}
use Prim.Native.Nat.{ℕ, ◌+◌, ◌-◌, ◌*◌, ◌%◌, ◌^◌, ◌≤◌}
use native.Mathlib.Nat.{one-mul, pow-succ'}
use native.Mathlib.Numerals.{add-one}
use native.Mathlib.Omega.{arith}
use lib.Dec.{lit<}
use lib.Pow.{shl_exact}
use Rattle.laws.proofs.Powers.{pow_pred}

-- 1 and 2 shifted by k, within m bits
pub one_shifted : (k m : ℕ) → 1 + k ≤ m → 1 * 2 ^ k % 2 ^ m ≡ 2 ^ k
one_shifted k m h = shl_exact 1 k m (lit< tt) h ∙ one-mul (2 ^ k)

pub two_shifted : (k m : ℕ) → 2 + k ≤ m → 2 * 2 ^ k % 2 ^ m ≡ 2 ^ (k + 1)
two_shifted k m h = shl_exact 2 k m (lit< tt) h ∙ sym (pow-succ' 2 k) ∙ ap (λ j. 2 ^ j) (sym (add-one k))

-- and one place from two down
pub doubled : (w : ℕ) → 2 ≤ w → 2 * 2 ^ (w - 2) ≡ 2 ^ (w - 1)
doubled w h = ap (λ j. 2 * 2 ^ j) (omega arith) ∙ sym (pow_pred (w - 1) (omega arith))

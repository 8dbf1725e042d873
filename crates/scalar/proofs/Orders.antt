-- The order that a byte tells. Assumes nothing.
use mathlib.Core.Path.{◌≡◌, refl, sym, ap}
use mathlib.Core.Logic.{◌≢◌}
use Prim.Native.Nat.{ℕ, zero, suc}
use Rattle.meaning.specs.Scalars.{Order, highest_first, lowest_first, code_of, order_of}

pub nought : {b : ℕ} → b ≡ 0 → highest_first ≡ order_of b
unfolding order_of
nought e = ap order_of (sym e)

pub other : (b : ℕ) → b ≢ 0 → lowest_first ≡ order_of b
unfolding order_of
other zero n = absurd (n refl)
other (suc b) n = refl

-- an order's byte tells that order
pub code_tells : (o : Order) → order_of (code_of o) ≡ o
unfolding order_of
code_tells highest_first = refl
code_tells lowest_first = refl

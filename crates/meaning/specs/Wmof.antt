-- Form 3, wMOF: from the top place down, a 0 where d_i = d_(i-1), else a window of w places with one digit in it.
-- Assumes nothing.
use Rattle.std.specs.Prelude.{cond, List, ℕ, zero, suc, ◌+◌, ◌-◌, eqb, ℤ, pos, set, replicate}
use Rattle.meaning.specs.Scalars.{bit, below}
use Rattle.meaning.specs.Windows.{window_bits, window_worth, twos, odd_part}

-- what the window that opens at place i is worth
abbrev pub window_at : ℕ → ℕ → ℕ → ℤ
window_at w N i = window_worth w (window_bits w N i)

-- the place of the digit of a window that opens at place i and is worth v: i - w + 1 + k
abbrev pub spot : (w i : ℕ) → ℤ → ℕ
spot w i v = suc i + twos w v - w

-- L places that are zero but for the digits of the places under m, so i = m - 1; the fuel is at least m.
-- Equal bits: i falls by one. Otherwise the digit u at its place, the window's other places are 0, and i falls by w
unfoldable pub wmof_under : (w N L fuel m : ℕ) → List ℤ
wmof_under w N L zero m = replicate L (pos 0)
wmof_under w N L (suc f) zero = replicate L (pos 0)
wmof_under w N L (suc f) (suc i) =
    let v = window_at w N i in
    let none = wmof_under w N L f i in
    let some = set (wmof_under w N L f (suc i - w)) (spot w i v) (odd_part w v) in
    cond (eqb (bit N i) (below N i)) none some

-- the string of N at places 0 to n, started at place n
unfoldable pub wmof : (w N n : ℕ) → List ℤ
wmof w N n = wmof_under w N (n + 1) (n + 1) (n + 1)

-- The closest form as code makes it: wMOF's windows, but for one tie. Assumes nothing.
use Rattle.std.specs.Prelude.{cond, ◌&&◌, List, ℕ, zero, suc, ◌+◌, ◌-◌, eqb, ℤ, pos, ◌-ℤ◌, set, replicate}
use Rattle.std.specs.Int.Count.{count_trailing_zeros}
use Rattle.meaning.specs.Scalars.{bit, below}
use Rattle.meaning.specs.Windows.{odd_part}
use Rattle.meaning.specs.Wmof.{window_at, spot}
use Rattle.meaning.specs.Closest.{Tie, larger, smaller}

-- the leading bit of a window at which a tie is rounded down, other than wMOF does
abbrev pub turn : Tie → ℕ
turn larger = 1
turn smaller = 0

-- L places that are zero but for the digits of the places under m: wMOF's, but for a window w places above the lowest set bit t that leads with the bit b,
-- which is worth one less and leaves 1 at place t. The fuel is at least m
unfoldable pub closest_under : (b w N L t fuel m : ℕ) → List ℤ
closest_under b w N L t zero m = replicate L (pos 0)
closest_under b w N L t (suc f) zero = replicate L (pos 0)
closest_under b w N L t (suc f) (suc i) =
    let v = window_at w N i in
    let v₁ = v -ℤ pos 1 in
    let none = closest_under b w N L t f i in
    let some = set (closest_under b w N L t f (suc i - w)) (spot w i v) (odd_part w v) in
    let last = set (set (replicate L (pos 0)) t (pos 1)) (spot w i v₁) (odd_part w v₁) in
    cond (eqb (bit N i) (below N i)) none (cond (eqb i (w + t) && eqb (bit N i) b) last some)

-- the n + 1 digits of N, N < 2 ^ n, place 0 first
unfoldable pub closest_of : (tie : Tie) (w N n : ℕ) → List ℤ
closest_of tie w N n = closest_under (turn tie) w N (n + 1) (count_trailing_zeros n N) (n + 1) (n + 1)

-- What a joint sparse string is, in plain words. Assumes nothing.
use mathlib.Core.Bool.{Bool, true, false, not}
use mathlib.Core.List.{List, [], ◌∷◌}
use Prim.Native.Nat.{ℕ, zero, suc}
use lib.Dec.{T, eqb}
use Rattle.pairs.specs.Columns.{D, neg, nil, one, Col, fst, snd, off}
use Rattle.pairs.proofs.Tested.{both, when}

-- a digit is nonzero, and two digits are one
unfoldable pub some : D → Bool
some neg = true
some nil = false
some one = true

unfoldable pub same : D → D → Bool
same x y = eqb (off x) (off y)

-- a column has a nonzero digit
unfoldable pub full : Col → Bool
unfolding some
full (neg, y) = true
full (nil, y) = some y
full (one, y) = true

-- of three columns one is zero
unfoldable pub gap : Col → Col → Col → Bool
gap c d e = not (both (full c) (both (full d) (full e)))

-- where a row has two neighbouring nonzero digits, x and the higher x', they have one sign, and the other row is zero at the lower place and not at the higher
unfoldable pub calm : D → D → D → D → Bool
calm x x' y y' = when (both (some x) (some x')) (both (same x x') (both (not (some y)) (some y')))

-- both rows of two neighbouring columns, the lower first
unfoldable pub turn : Col → Col → Bool
turn c d = both (calm (fst c) (fst d) (snd c) (snd d)) (calm (snd c) (snd d) (fst c) (fst d))

-- the column at a place: past the end, the zero column
unfoldable pub at : List Col → ℕ → Col
at [] i = (nil, nil)
at (c ∷ cs) zero = c
at (c ∷ cs) (suc i) = at cs i

-- a joint sparse string: the conditions at each place
pub record Regular (cs : List Col) : Type 0 where
  pub gaps : (i : ℕ) → T (gap (at cs i) (at cs (suc i)) (at cs (suc (suc i))))
  pub turns : (i : ℕ) → T (turn (at cs i) (at cs (suc i)))

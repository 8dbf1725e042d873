-- Forms 4 and 5, closest: while the remaining number is not 0, the candidate closest to it is taken off. The tie rule is a parameter; form 4 takes the larger, form 5 the smaller.
-- That a candidate is closest, that there is one only, that no two steps use one place and that n + 1 places suffice are theorems.
-- Assumes nothing.
use Rattle.std.specs.Prelude.{◌≡◌, ◌≢◌, List, ℕ, ◌+◌, ◌^◌, ◌<◌, ◌≤◌, T, ℤ, pos, nat_abs, ◌-ℤ◌, ◌*ℤ◌, length, set, replicate}
use Rattle.meaning.specs.Digits.{largest, in_set}

-- which of two equally near candidates is taken, by absolute value
pub data Tie : Type 0 where
  larger : Tie
  smaller : Tie

-- the candidates: u · 2 ^ i, u a nonzero digit of D_w
pub record Candidate (w : ℕ) (c : ℤ) : Type 0 where
  pub place : ℕ
  pub unit : ℤ
  pub digit : T (in_set (largest w) unit)
  pub some : unit ≢ pos 0
  pub is : c ≡ pos (2 ^ place) *ℤ unit

-- the tie rule takes c rather than c', or they have one size
unfoldable pub Favours : Tie → ℤ → ℤ → Type 0
Favours larger c c' = nat_abs c' ≤ nat_abs c
Favours smaller c c' = nat_abs c ≤ nat_abs c'

-- c is the candidate closest to R: none is nearer, and of the equally near ones the tie rule takes c
pub record IsClosest (tie : Tie) (w : ℕ) (R c : ℤ) : Type 0 where
  pub candidate : Candidate w c
  pub nearest : (c' : ℤ) → Candidate w c' → nat_abs (R -ℤ c) ≤ nat_abs (R -ℤ c')
  pub favoured : (c' : ℤ) → Candidate w c' → nat_abs (R -ℤ c) ≡ nat_abs (R -ℤ c') → Favours tie c c'

-- the string of R: zeros for 0; else u · 2 ^ p is closest to R, u stands at place p, and what remains is taken on
pub data Takes (tie : Tie) (w : ℕ) : ℤ → List ℤ → Type 0 where
  done : {R : ℤ} (L : ℕ) → R ≡ pos 0 → Takes tie w R (replicate L (pos 0))
  take : {R : ℤ} {ds : List ℤ} (p : ℕ) (u : ℤ) → R ≢ pos 0 → T (in_set (largest w) u) → u ≢ pos 0 → IsClosest tie w R (pos (2 ^ p) *ℤ u) → p < length ds
      → Takes tie w (R -ℤ pos (2 ^ p) *ℤ u) ds → Takes tie w R (set ds p u)

-- ds is the closest form of N on n + 1 places
pub record Closest (tie : Tie) (w N n : ℕ) (ds : List ℤ) : Type 0 where
  pub length_is : length ds ≡ n + 1
  pub taken : Takes tie w (pos N) ds

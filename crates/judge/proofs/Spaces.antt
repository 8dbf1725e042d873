-- A look at the spacing of the nonzero digits, gap by gap and from place 0 up: what is known at place i, and that no place is crowded where all gaps under w are clear.
-- Assumes nothing.
use mathlib.Core.Path.{◌≡◌, subst}
use mathlib.Core.Logic.{◌≢◌, ◌⊎◌}
use mathlib.Core.List.{List}
use Prim.Native.Nat.{ℕ, ◌+◌, ◌-◌, ◌<◌, ◌≤◌}
use native.Mathlib.Omega.{arith}
use lib.IntN.{ℤ, pos}
use lib.ListN.{get_or}
use Rattle.meaning.specs.Checking.{Crowded}
use Rattle.judge.specs.Spaces.{Clear}

-- the digit at place p is not 0
abbrev Some : List ℤ → ℕ → Type 0
Some ds p = get_or ds p (pos 0) ≢ pos 0

-- ---- whether two stand too near, at all
-- no two nonzero digits under place i stand `gap` apart
abbrev pub Cleared : (gap : ℕ) (ds : List ℤ) (i : ℕ) → Type 0
Cleared gap ds i = (p : ℕ) → p + gap < i → Some ds p → Some ds (p + gap) → ⊥

-- where no two stand fewer than w apart, none stand too near
pub clear_apart : (w : ℕ) (ds : List ℤ) → ((g : ℕ) → g < w → 0 < g → Clear g ds) → (p : ℕ) → Crowded w ds p → ⊥
clear_apart w ds h p c =
    let there : c.other ≡ p + (c.other - p) = omega (arith, c.above) in
    h (c.other - p) (omega (arith, c.near, c.above)) (omega (arith, c.above)) p c.here (subst (Some ds) there c.there)

-- ---- the lowest pair
-- a nonzero place under place i, such that the next may stand from place `free` on
pub record Last (w : ℕ) (ds : List ℤ) (free i : ℕ) : Type 0 where
  pub place : ℕ
  pub under : place < i
  pub some : Some ds place
  pub is : free ≡ place + w

-- the nonzero digits under place i stand apart, and the next one stands apart from each of them from place `free` on
pub record Roomy (w : ℕ) (ds : List ℤ) (free i : ℕ) : Type 0 where
  pub apart : (p q : ℕ) → p < q → q < i → Some ds p → Some ds q → p + w ≤ q
  pub clear : (p : ℕ) → p < i → Some ds p → p + w ≤ free
  pub last : (free ≡ 0) ⊎ Last w ds free i

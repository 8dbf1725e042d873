-- The places in a state: at the start no more than a string has, and after a call under every bound that they and a string's places were under.
-- Assumes nothing.
use mathlib.Core.Path.{subst, sym}
use mathlib.Core.Bool.{◌&&◌}
use mathlib.Core.List.{List}
use Prim.Native.Nat.{ℕ, zero, suc, ◌-◌, ◌≤◌, ◌<◌}
use native.Mathlib.Omega.{arith}
use lib.Count.{trailing_le}
use lib.Dec.{T, eqb, leb, ltb, ltb→lt, leb→le}
use lib.IntN.{ℤ, nat_abs}
use Rattle.laws.proofs.Choices.{either, and_both}
use Rattle.meaning.specs.Scalars.{Order, number, bit, below}
use Rattle.meaning.specs.Digits.{least_width, most_width, most_places}
use Rattle.meaning.specs.Wmof.{window_at}
use Rattle.meaning.specs.Reading.{Holds}
use Rattle.reader.specs.declared.State.{State}
use Rattle.reader.specs.declared.Taken.{Taken}
use Rattle.reader.specs.States.{starting, opened, openable, fresh, taken, after, After}
use Rattle.reader.proofs.Starts.{held_short}

-- the places to come, a window's spot and its floor are at most B
pub record Few (B m p f : ℕ) : Type 0 where
  pub place_le : m ≤ B
  pub spot_le : p ≤ B
  pub floor_le : f ≤ B

-- ---- the start
pub starts_few : {w : ℕ} {o : Order} {s : List ℕ} {q : State} → After w o s 0 q → Few most_places q.place q.spot q.floor
unfolding after
starts_few {w} {o} {s} {q} A = subst (λ x. Few most_places x.place x.spot x.floor) (sym A.state_is) (go q.refusal A.holds)
  where
    go : (r : ℕ) → Holds w s r → let x = starting r w o s in Few most_places x.place x.spot x.floor
    go zero h = let short = held_short w s h in record { place_le = omega arith; spot_le = omega arith; floor_le = omega arith }
    go (suc r) h = record { place_le = omega arith; spot_le = omega arith; floor_le = omega arith }

-- ---- a call
module _ (B : ℕ) (most : most_places ≤ B) where
  abbrev Leaves : Taken → Type 0
  Leaves t = Few B t.place t.spot t.floor

  -- a window's digit is no higher than the place that it opens at
  opened_few : (w N i : ℕ) → i < most_places → Leaves (opened w N i)
  unfolding opened
  opened_few w N i h =
      either Leaves (eqb (bit N i) (below N i))
      (λ _. record { place_le = omega arith; spot_le = omega arith; floor_le = omega arith })
      (λ _. record { place_le = omega arith; spot_le = omega (arith, trailing_le w (nat_abs (window_at w N i))); floor_le = omega arith })

  -- one can open only under a place of a string
  openable_few : (m w : ℕ) → T (openable m w) → m - 1 < most_places
  openable_few m w t =
      let (wide, _) = and_both (ltb 0 m && leb m most_places && leb least_width w) (leb w most_width) t in
      let (places, _) = and_both (ltb 0 m && leb m most_places) (leb least_width w) wide in
      let (some, few) = and_both (ltb 0 m) (leb m most_places) places in
      omega (arith, ltb→lt 0 m some, leb→le m most_places few)

  pub takes_few : (o : Order) (s : List ℕ) (m w : ℕ) (d : ℤ) (p f : ℕ) → Few B m p f → let t = taken o s m w d p f in Few B t.place t.spot t.floor
  unfolding fresh taken
  takes_few o s m w d p f q =
      let pass : Few B (m - 1) p f = record { place_le = omega (arith, q.place_le); spot_le = q.spot_le; floor_le = q.floor_le } in
      let end : Few B 0 p f = record { place_le = omega arith; spot_le = q.spot_le; floor_le = q.floor_le } in
      either Leaves (ltb f m) (λ _. pass) (λ _. either Leaves (openable m w) (λ t. opened_few w (number o s) (m - 1) (openable_few m w t)) (λ _. end))

-- wMOF and the closest form as code makes them: from the top place down, each digit put into the buffer as it stands. `from b w N t m ds` is the buffer at the
-- end where m places are left and it now holds ds, so `from .. ≡ the form` is a loop's invariant, and `from_same`, `from_open` and `from_last` are its steps.
-- Assumes nothing.
use mathlib.Core.Path.{◌≡◌, refl, ap, ◌∙◌}
use mathlib.Core.Logic.{◌≢◌}
use mathlib.Core.Bool.{Bool, not, cond, ◌&&◌}
use mathlib.Core.List.{List}
use Prim.Native.Nat.{ℕ, zero, suc, ◌+◌, ◌-◌, ◌^◌, ◌<◌, ◌≤◌}
use native.Mathlib.Omega.{arith}
use lib.ListN.{set, replicate}
use lib.Seq.{set_comm}
use lib.Count.{count_trailing_zeros}
use lib.Dec.{T, eqb, eqb→eq, not_T}
use lib.IntN.{ℤ, pos, ◌-ℤ◌}
use Rattle.laws.proofs.Choices.{choices, yes_is, no_is, and_both, and_of, equal, unequal, not_equal}
use Rattle.meaning.specs.Scalars.{bit, below}
use Rattle.meaning.specs.Windows.{odd_part}
use Rattle.meaning.specs.Wmof.{window_at, spot, wmof_under, wmof}
use Rattle.meaning.specs.Closest.{Tie, larger}
use Rattle.forms.specs.Closest.{turn, closest_under, closest_of}
use Rattle.forms.proofs.Rest.{rest, Differ, differ}
use Rattle.forms.proofs.Wmof.{At, step_at, window_step}
use Rattle.forms.proofs.Ties.{Lowest, lowest_of, lowest_rest, opens_some, turn_step}

-- with fuel
unfoldable run : (b w N t fuel m : ℕ) → List ℤ → List ℤ
run b w N t zero m ds = ds
run b w N t (suc f) zero ds = ds
run b w N t (suc f) (suc i) ds =
    let v = window_at w N i in
    let v₁ = v -ℤ pos 1 in
    let zero_digit = run b w N t f i ds in
    let digit = run b w N t f (suc i - w) (set ds (spot w i v) (odd_part w v)) in
    let last = set (set ds (spot w i v₁) (odd_part w v₁)) t (pos 1) in
    cond (eqb (bit N i) (below N i)) zero_digit (cond (eqb i (w + t) && eqb (bit N i) b) last digit)

-- the place of a tie
tie_place : (i j : ℕ) (q : Bool) → T (eqb i j && q) → i ≡ j
tie_place i j q a = eqb→eq i j (and_both (eqb i j) q a).0

-- the bits at a window
pub differs : (N i : ℕ) → T (not (eqb (bit N i) (below N i))) → Differ (bit N i) (below N i)
differs N i s = differ (bit N i) (below N i) (omega arith) (omega arith) (unequal (bit N i) (below N i) s)

module _ (b w N t : ℕ) (two : 2 ≤ w) (low : 0 < N → Lowest N t) where
  -- where the digits go
  opens_at : (i : ℕ) → Differ (bit N i) (below N i) → At w i (rest N (suc i)) (window_at w N i) (rest N (suc i - w))
  opens_at i d = step_at w two (window_step w N i d)

  -- and at the last
  pub last_at : (i : ℕ) → Differ (bit N i) (below N i) → i ≡ w + t → At w i (rest N (suc i)) (window_at w N i -ℤ pos 1) (pos (2 ^ t))
  last_at i d e =
      let z : suc i - w ≡ suc t = omega arith in
      step_at w two (turn_step w i t (rest N (suc i)) (window_at w N i) (rest N (suc i - w)) e (window_step w N i d) (ap (rest N) z ∙ lowest_rest N t (low (opens_some N i d))))

  -- a digit above may as well be put last
  slide : (f m p : ℕ) (u : ℤ) (ds : List ℤ) → m ≤ p → run b w N t f m (set ds p u) ≡ set (run b w N t f m ds) p u
  unfolding run
  slide zero m p u ds h = refl
  slide (suc f) zero p u ds h = refl
  slide (suc f) (suc i) p u ds h =
      choices (λ x y. x ≡ set y p u) (eqb (bit N i) (below N i))
      (λ s. slide f i p u ds (omega arith))
      (λ s.
      let d = differs N i s in
      let v = window_at w N i in
      let v₁ = v -ℤ pos 1 in
      choices (λ x y. x ≡ set y p u) (eqb i (w + t) && eqb (bit N i) b)
      (λ a.
      let e = tie_place i (w + t) (eqb (bit N i) b) a in
      let es = set ds (spot w i v₁) (odd_part w v₁) in
      ap (λ x. set x t (pos 1)) (set_comm ds p (spot w i v₁) u (odd_part w v₁) (omega (arith, (last_at i d e).under)))
      ∙ set_comm es p t u (pos 1) (omega arith))
      (λ a.
      ap (run b w N t f (suc i - w)) (set_comm ds p (spot w i v) u (odd_part w v) (omega (arith, (opens_at i d).under)))
      ∙ slide f (suc i - w) p u (set ds (spot w i v) (odd_part w v)) (omega arith)))

  -- from zeros, it is the form
  run_under : (L f m : ℕ) → run b w N t f m (replicate L (pos 0)) ≡ closest_under b w N L t f m
  unfolding run closest_under
  run_under L zero m = refl
  run_under L (suc f) zero = refl
  run_under L (suc f) (suc i) =
      choices (λ x y. x ≡ y) (eqb (bit N i) (below N i))
      (λ s. run_under L f i)
      (λ s.
      let d = differs N i s in
      let v = window_at w N i in
      let v₁ = v -ℤ pos 1 in
      choices (λ x y. x ≡ y) (eqb i (w + t) && eqb (bit N i) b)
      (λ a.
      let e = tie_place i (w + t) (eqb (bit N i) b) a in
      set_comm (replicate L (pos 0)) (spot w i v₁) t (odd_part w v₁) (pos 1) (omega (arith, (last_at i d e).from)))
      (λ a.
      slide f (suc i - w) (spot w i v) (odd_part w v) (replicate L (pos 0)) (opens_at i d).from
      ∙ ap (λ x. set x (spot w i v) (odd_part w v)) (run_under L f (suc i - w))))

-- the fuel does not matter
run_fuel : (b w N t : ℕ) → 2 ≤ w → (f g m : ℕ) (ds : List ℤ) → m ≤ f → m ≤ g → run b w N t f m ds ≡ run b w N t g m ds
unfolding run
run_fuel b w N t two zero zero m ds h k = refl
run_fuel b w N t two zero (suc g) zero ds h k = refl
run_fuel b w N t two zero (suc g) (suc i) ds h k = absurd (omega arith)
run_fuel b w N t two (suc f) zero zero ds h k = refl
run_fuel b w N t two (suc f) zero (suc i) ds h k = absurd (omega arith)
run_fuel b w N t two (suc f) (suc g) zero ds h k = refl
run_fuel b w N t two (suc f) (suc g) (suc i) ds h k =
    let v = window_at w N i in
    choices (λ x y. x ≡ y) (eqb (bit N i) (below N i))
    (λ s. run_fuel b w N t two f g i ds (omega arith) (omega arith))
    (λ s. choices (λ x y. x ≡ y) (eqb i (w + t) && eqb (bit N i) b) (λ a. refl)
    (λ a. run_fuel b w N t two f g (suc i - w) (set ds (spot w i v) (odd_part w v)) (omega arith) (omega arith)))

-- ---- for a loop
pub from : (b w N t m : ℕ) → List ℤ → List ℤ
from b w N t m ds = run b w N t m m ds

-- no places left
pub from_done : (b w N t : ℕ) (ds : List ℤ) → from b w N t 0 ds ≡ ds
unfolding from run
from_done b w N t ds = refl

module _ (b w N t : ℕ) (two : 2 ≤ w) (i : ℕ) (ds : List ℤ) where
  -- equal bits
  pub from_same : bit N i ≡ below N i → from b w N t (suc i) ds ≡ from b w N t i ds
  unfolding from run
  from_same e = yes_is (eqb (bit N i) (below N i)) _ _ (equal (bit N i) (below N i) e)

  -- a window
  pub from_open : bit N i ≢ below N i → (i ≡ w + t → bit N i ≢ b) → from b w N t (suc i) ds ≡ from b w N t (suc i - w) (set ds (spot w i (window_at w N i)) (odd_part w (window_at w N i)))
  unfolding from run
  from_open n k =
      no_is (eqb (bit N i) (below N i)) _ _ (not_equal (bit N i) (below N i) n)
      ∙ no_is (eqb i (w + t) && eqb (bit N i) b) _ _ (not_T (eqb i (w + t) && eqb (bit N i) b) (λ s. let (p, q) = and_both (eqb i (w + t)) (eqb (bit N i) b) s in k (eqb→eq i (w + t) p) (eqb→eq (bit N i) b q)))
      ∙ run_fuel b w N t two i (suc i - w) (suc i - w) (set ds (spot w i (window_at w N i)) (odd_part w (window_at w N i))) (omega arith) (omega arith)

  -- the window of a tie that is rounded down, the last but for the 1 under it
  pub from_last : bit N i ≢ below N i → i ≡ w + t → bit N i ≡ b
      → from b w N t (suc i) ds ≡ set (set ds (spot w i (window_at w N i -ℤ pos 1)) (odd_part w (window_at w N i -ℤ pos 1))) t (pos 1)
  unfolding from run
  from_last n e k =
      no_is (eqb (bit N i) (below N i)) _ _ (not_equal (bit N i) (below N i) n)
      ∙ yes_is (eqb i (w + t) && eqb (bit N i) b) _ _ (and_of (eqb i (w + t)) (eqb (bit N i) b) (equal i (w + t) e) (equal (bit N i) b k))

-- no window leads with the bit 2: wMOF
wmof_under_is : (w N L t f m : ℕ) → closest_under 2 w N L t f m ≡ wmof_under w N L f m
unfolding closest_under wmof_under
wmof_under_is w N L t zero m = refl
wmof_under_is w N L t (suc f) zero = refl
wmof_under_is w N L t (suc f) (suc i) =
    choices (λ x y. x ≡ y) (eqb (bit N i) (below N i))
    (λ s. wmof_under_is w N L t f i)
    (λ s.
    no_is (eqb i (w + t) && eqb (bit N i) 2) _ _ (not_T (eqb i (w + t) && eqb (bit N i) 2) (λ a. omega (arith, eqb→eq (bit N i) 2 (and_both (eqb i (w + t)) (eqb (bit N i) 2) a).1)))
    ∙ ap (λ x. set x (spot w i (window_at w N i)) (odd_part w (window_at w N i))) (wmof_under_is w N L t f (suc i - w)))

module _ (w N n : ℕ) (two : 2 ≤ w) (small : N < 2 ^ n) where
  -- the whole string of the closest form
  pub from_closest : (tie : Tie) → from (turn tie) w N (count_trailing_zeros n N) (n + 1) (replicate (n + 1) (pos 0)) ≡ closest_of tie w N n
  unfolding from closest_of
  from_closest tie = run_under (turn tie) w N (count_trailing_zeros n N) two (lowest_of tie w N n two small) (n + 1) (n + 1) (n + 1)

  -- and of wMOF: no window leads with the bit 2
  pub from_wmof : from 2 w N (count_trailing_zeros n N) (n + 1) (replicate (n + 1) (pos 0)) ≡ wmof w N n
  unfolding from wmof
  from_wmof =
      run_under 2 w N (count_trailing_zeros n N) two (lowest_of larger w N n two small) (n + 1) (n + 1) (n + 1)
      ∙ wmof_under_is w N (n + 1) (count_trailing_zeros n N) (n + 1) (n + 1)

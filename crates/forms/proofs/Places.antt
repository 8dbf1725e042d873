-- wMOF's string read from the top, for a reader that gives a digit a call: with m places left, `Agrees` says that the string's low m places are those that
-- the rule makes from there; each step of the rule tells the digits of the places that it passes. Assumes nothing.
use mathlib.Core.Path.{◌≡◌, refl, ap, ◌∙◌}
use mathlib.Core.Logic.{◌≢◌}
use mathlib.Core.List.{List}
use Prim.Native.Nat.{ℕ, zero, suc, ◌+◌, ◌-◌, ◌<◌, ◌≤◌}
use native.Mathlib.Omega.{arith}
use native.Mathlib.Nat.{le_refl}
use lib.ListN.{get_or, set}
use lib.Seq.{get_or-set_same, get_or-set_other}
use lib.Dec.{eqb}
use lib.IntN.{ℤ, pos}
use Rattle.laws.proofs.Choices.{choices, yes_is, no_is, equal, not_equal}
use Rattle.meaning.specs.Scalars.{bit, below}
use Rattle.meaning.specs.Windows.{odd_part}
use Rattle.meaning.specs.Wmof.{window_at, spot, wmof_under, wmof}
use Rattle.forms.proofs.Rest.{differ}
use Rattle.forms.proofs.Wmof.{step_at, window_step, under_ok}

-- the fuel does not matter
under_fuel : (w N L : ℕ) → 2 ≤ w → (f g m : ℕ) → m ≤ f → m ≤ g → wmof_under w N L f m ≡ wmof_under w N L g m
unfolding wmof_under
under_fuel w N L two zero zero m h k = refl
under_fuel w N L two zero (suc g) zero h k = refl
under_fuel w N L two zero (suc g) (suc i) h k = absurd (omega arith)
under_fuel w N L two (suc f) zero zero h k = refl
under_fuel w N L two (suc f) zero (suc i) h k = absurd (omega arith)
under_fuel w N L two (suc f) (suc g) zero h k = refl
under_fuel w N L two (suc f) (suc g) (suc i) h k =
    choices (λ x y. x ≡ y) (eqb (bit N i) (below N i))
    (λ s. under_fuel w N L two f g i (omega arith) (omega arith))
    (λ s. ap (λ x. set x (spot w i (window_at w N i)) (odd_part w (window_at w N i))) (under_fuel w N L two f g (suc i - w) (omega arith) (omega arith)))

-- the low m places of ds are those that the rule makes with m places left
pub Agrees : (w N L m : ℕ) → List ℤ → Type 0
Agrees w N L m ds = (p : ℕ) → p < m → get_or ds p (pos 0) ≡ get_or (wmof_under w N L m m) p (pos 0)

-- the string of N, at the start
pub agrees_all : (w N n : ℕ) → Agrees w N (n + 1) (n + 1) (wmof w N n)
unfolding Agrees wmof
agrees_all w N n p h = refl

module _ (w N L : ℕ) (two : 2 ≤ w) (i : ℕ) (fits : suc i ≤ L) (ds : List ℤ) (a : Agrees w N L (suc i) ds) where
  -- equal bits: a 0
  pub agrees_same : bit N i ≡ below N i → (get_or ds i (pos 0) ≡ pos 0) × Agrees w N L i ds
  unfolding Agrees wmof_under
  agrees_same e =
      let s = yes_is (eqb (bit N i) (below N i)) _ _ (equal (bit N i) (below N i) e) in
      let f : wmof_under w N L (suc i) (suc i) ≡ wmof_under w N L i i = s in
      (a i (omega arith) ∙ ap (λ x. get_or x i (pos 0)) f ∙ (under_ok w N L two i i (le_refl i) (omega arith)).clear i (le_refl i), λ p h. a p (omega arith) ∙ ap (λ x. get_or x p (pos 0)) f)

  -- a window: its digit at its spot, zeros at its other places
  pub agrees_open : bit N i ≢ below N i
      → (get_or ds (spot w i (window_at w N i)) (pos 0) ≡ odd_part w (window_at w N i)) × ((p : ℕ) → suc i - w ≤ p → p < suc i → p ≢ spot w i (window_at w N i) → get_or ds p (pos 0) ≡ pos 0) × Agrees w N L (suc i - w) ds
  unfolding Agrees wmof_under
  agrees_open n =
      let v = window_at w N i in
      let q = spot w i v in
      let d = differ (bit N i) (below N i) (omega arith) (omega arith) n in
      let A = step_at w two (window_step w N i d) in
      let es = wmof_under w N L (suc i - w) (suc i - w) in
      let U = under_ok w N L two (suc i - w) (suc i - w) (le_refl (suc i - w)) (omega arith) in
      let s = no_is (eqb (bit N i) (below N i)) _ _ (not_equal (bit N i) (below N i) n) in
      let f : wmof_under w N L (suc i) (suc i) ≡ set es q (odd_part w v) = s ∙ ap (λ x. set x q (odd_part w v)) (under_fuel w N L two i (suc i - w) (suc i - w) (omega arith) (le_refl (suc i - w))) in (
        a q A.under ∙ ap (λ x. get_or x q (pos 0)) f ∙ get_or-set_same es q (odd_part w v) (pos 0) (omega (arith, A.under, U.size)),
        λ p h k m. a p k ∙ ap (λ x. get_or x p (pos 0)) f ∙ get_or-set_other es q p (odd_part w v) (pos 0) m ∙ U.clear p h,
        λ p h. a p (omega arith) ∙ ap (λ x. get_or x p (pos 0)) f ∙ get_or-set_other es q p (odd_part w v) (pos 0) (omega (arith, A.from)),
      )

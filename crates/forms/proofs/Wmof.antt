-- Form 3, wMOF: what a window takes off, where its digit stands, and that the string is worth N, lies in D_w and has n + 1 places. Assumes nothing.
use mathlib.Core.Path.{◌≡◌, ap, ◌∙◌}
use mathlib.Core.List.{List}
use Prim.Native.Nat.{ℕ, zero, suc, ◌+◌, ◌*◌, ◌-◌, ◌^◌, ◌<◌, ◌≤◌}
use native.Mathlib.Omega.{arith}
use native.Mathlib.Decide.{dec_le}
use native.Mathlib.Numerals.{add-one}
use native.Mathlib.Nat.{pow-succ', mul-le-mul_left, mul-le-mul_right, lt_of_mul-lt-mul_left}
use lib.ListN.{length, get_or, set, replicate, length-set, length-replicate, get_or-replicate, get_or-eq_default}
use lib.Seq.{get_or-set_other}
use lib.Dec.{T, eqb, eqb→eq}
use lib.Pow.{pow_pos, pow_mono, pow-add}
use lib.IntN.{ℤ, pos, nat_abs, ◌+ℤ◌, ◌*ℤ◌}
use Rattle.laws.proofs.Integers.{abs_mul, abs_block}
use Rattle.laws.proofs.Powers.{pow_four}
use Rattle.laws.proofs.Choices.{either, unequal}
use Rattle.meaning.specs.Scalars.{bit, below}
use Rattle.meaning.specs.Digits.{worth, all_in, largest}
use Rattle.meaning.specs.Windows.{twos, odd_part}
use Rattle.meaning.specs.Wmof.{window_at, spot, wmof_under, wmof}
use Rattle.forms.proofs.Naf.{Digit}
use Rattle.forms.proofs.DigitSets.{all_in_is}
use Rattle.forms.proofs.Block.{unit_block, place}
use Rattle.forms.proofs.Built.{Drop, drop_block, drop_scaled, Built, blank, put, built_worth, built_digits}
use Rattle.forms.proofs.Rest.{rest, rest_zero, rest_all, rest_same, rest_small, rest_big, rest_window, rest_low, Differ, differ}

-- ---- a step
-- the digits of the places under m, worth R, on L places
pub record Under (w L : ℕ) (R : ℤ) (m : ℕ) (ds : List ℤ) : Type 0 where
  pub built : Built w R ds
  pub size : length ds ≡ L
  pub clear : (p : ℕ) → m ≤ p → get_or ds p (pos 0) ≡ pos 0

-- a block worth v is taken off R at place i and leaves ρ, all times 2 ^ w: R is about 2 ^ i, and ρ at most half of the block's lowest place
pub record Step (w i : ℕ) (R v ρ : ℤ) : Type 0 where
  pub law : pos (2 ^ w) *ℤ R ≡ pos (2 ^ suc i) *ℤ v +ℤ pos (2 ^ w) *ℤ ρ
  pub big : 2 ^ i ≤ 2 * nat_abs R
  pub top : nat_abs R ≤ 2 ^ i
  pub low : 2 ^ w * nat_abs ρ ≤ 2 ^ i

-- the digit of such a block
pub record At (w i : ℕ) (R v ρ : ℤ) : Type 0 where
  pub digit : Digit w (odd_part w v)
  pub over : w ≤ suc i + twos w v
  pub from : suc i - w ≤ spot w i v
  pub under : spot w i v < suc i
  pub is : R ≡ pos (2 ^ spot w i v) *ℤ odd_part w v +ℤ ρ

-- 2 ^ k is at most half of 2 ^ w
short : (w k : ℕ) → 2 * 2 ^ k ≤ 2 ^ w → k < w
short w k l = go (dec_le w k)
  where
    go : Dec (w ≤ k) → k < w
    go (yes g) = absurd (omega (arith, pow_mono g, pow_pos k))
    go (no g) = omega arith

module _ (w : ℕ) (two : 2 ≤ w) where
  -- the sizes of the three
  step_size : {i : ℕ} {R v ρ : ℤ} → Step w i R v ρ
      → (2 ^ w * nat_abs R ≤ 2 * 2 ^ i * nat_abs v + 2 ^ w * nat_abs ρ) × (2 * 2 ^ i * nat_abs v ≤ 2 ^ w * nat_abs R + 2 ^ w * nat_abs ρ)
  step_size {i} {R} {v} {ρ} S =
      let b = abs_block (2 ^ suc i) (pos (2 ^ w) *ℤ R) v (pos (2 ^ w) *ℤ ρ) S.law in
      omega (arith, b, abs_mul (2 ^ w) R, abs_mul (2 ^ w) ρ, ap (λ t. t * nat_abs v) (pow-succ' 2 i))

  -- the block is not 0
  pub step_some : {i : ℕ} {R v ρ : ℤ} → Step w i R v ρ → 0 < nat_abs v
  step_some {i} {R} {v} {ρ} S =
      let f : 4 ≤ 2 ^ w = omega (arith, pow_mono two) in
      let b = step_size S in
      lt_of_mul-lt-mul_left (2 ^ i) (omega (arith, mul-le-mul_left (2 ^ w) S.big, mul-le-mul_right (2 ^ i) f, pow_pos i))

  -- and at most 2 ^ (w - 1)
  pub step_fits : {i : ℕ} {R v ρ : ℤ} → Step w i R v ρ → 2 * nat_abs v ≤ 2 ^ w
  step_fits {i} {R} {v} {ρ} S =
      let b = step_size S in
      let l = lt_of_mul-lt-mul_left (2 * 2 ^ i) {m = 2 * nat_abs v} {n = 2 ^ w + 2} (omega (arith, mul-le-mul_left (2 ^ w) S.top, pow_pos i)) in
      omega (arith, (pow_four w two).1)

  -- what remains has a lower weight
  pub step_drop : {i : ℕ} {R v ρ : ℤ} → Step w i R v ρ → Drop w R ρ
  step_drop {i} {R} {v} {ρ} S =
      drop_scaled w two w R ρ (drop_block w two i (pos (2 ^ w) *ℤ R) v (pos (2 ^ w) *ℤ ρ) S.law
      (omega (arith, abs_mul (2 ^ w) ρ, S.low))
      (omega (arith, abs_mul (2 ^ w) R, mul-le-mul_left (2 ^ w) S.big, pow-add 2 i w)))

  -- the digit's place lies in the block
  pub step_at : {i : ℕ} {R v ρ : ℤ} → Step w i R v ρ → At w i R v ρ
  step_at {i} {R} {v} {ρ} S =
      let B = unit_block w two v (step_some S) (step_fits S) in
      let (l, e) = place w (suc i) (twos w v) R v ρ (odd_part w v) S.law B in
      let s = short w (twos w v) (omega (arith, step_fits S, B.low)) in
      record { digit = B.digit; over = l; from = omega arith; under = omega arith; is = e }

  -- the string of R from that of ρ
  pub step_put : (L i : ℕ) (R v ρ : ℤ) {ds : List ℤ} → Step w i R v ρ → suc i ≤ L → Under w L ρ (suc i - w) ds → Under w L R (suc i) (set ds (spot w i v) (odd_part w v))
  step_put L i R v ρ {ds} S h U =
      let p = spot w i v in
      let A = step_at S in
      record {
        built = put {ρ = ρ} {ds = ds} p (odd_part w v) A.digit (omega (arith, A.under, U.size)) (U.clear p A.from) A.is (step_drop S) U.built;
        size = length-set ds p (odd_part w v) ∙ U.size;
        clear = λ q g. get_or-set_other ds p q (odd_part w v) (pos 0) (omega (arith, A.under)) ∙ U.clear q (omega arith);
      }

-- wMOF's window is such a step
pub window_step : (w N i : ℕ) → Differ (bit N i) (below N i) → Step w i (rest N (suc i)) (window_at w N i) (rest N (suc i - w))
window_step w N i d =
    record {
      law = rest_window w N i;
      big = rest_big N i d;
      top = omega (arith, rest_small N (suc i), pow-succ' 2 i);
      low = omega (arith, rest_low w N (suc i), pow-succ' 2 i);
    }

-- a string of zeros, at any place
pub zero_at : (L p : ℕ) → get_or (replicate L (pos 0)) p (pos 0) ≡ pos 0
zero_at L p = go (dec_le L p)
  where
    go : Dec (L ≤ p) → get_or (replicate L (pos 0)) p (pos 0) ≡ pos 0
    go (yes h) = get_or-eq_default (replicate L (pos 0)) (pos 0) (omega (arith, length-replicate L (pos 0)))
    go (no h) = get_or-replicate L p (pos 0) (pos 0) (omega arith)

-- nothing to write
zeros : (w L : ℕ) (R : ℤ) → R ≡ pos 0 → (m : ℕ) → Under w L R m (replicate L (pos 0))
zeros w L R e m = record { built = blank L e; size = length-replicate L (pos 0); clear = λ p h. zero_at L p }

-- the digits under m are worth R_(m - 1)
pub under_ok : (w N L : ℕ) → 2 ≤ w → (f m : ℕ) → m ≤ f → m ≤ L → Under w L (rest N m) m (wmof_under w N L f m)
unfolding wmof_under
under_ok w N L two zero m h l = zeros w L (rest N m) (ap (rest N) (omega arith) ∙ rest_zero N) m
under_ok w N L two (suc f) zero h l = zeros w L (rest N 0) (rest_zero N) 0
under_ok w N L two (suc f) (suc i) h l =
    either (λ ds. Under w L (rest N (suc i)) (suc i) ds) (eqb (bit N i) (below N i))
    (λ t.
    let e = eqb→eq (bit N i) (below N i) t in
    let U = under_ok w N L two f i (omega arith) (omega arith) in
    record { built = rw (rest_same N i e) U.built; size = U.size; clear = λ p k. U.clear p (omega arith) })
    (λ t.
    let d = differ (bit N i) (below N i) (omega arith) (omega arith) (unequal (bit N i) (below N i) t) in
    step_put w two L i (rest N (suc i)) (window_at w N i) (rest N (suc i - w)) (window_step w N i d) l
    (under_ok w N L two f (suc i - w) (omega arith) (omega arith)))

module _ (w N n : ℕ) (two : 2 ≤ w) (small : N < 2 ^ n) where
  whole : Under w (n + 1) (rest N (n + 1)) (n + 1) (wmof w N n)
  unfolding wmof
  whole = under_ok w N (n + 1) two (n + 1) (n + 1) (omega arith) (omega arith)

  pub wmof_built : Built w (pos N) (wmof w N n)
  wmof_built = rw (add-one n, rest_all N n small) at whole.built

  -- n + 1 places
  pub wmof_length : length (wmof w N n) ≡ n + 1
  wmof_length = whole.size

  -- worth N
  pub wmof_worth : worth (wmof w N n) ≡ pos N
  wmof_worth = built_worth wmof_built

  -- in digits of D_w
  pub wmof_digits : T (all_in (largest w) (wmof w N n))
  wmof_digits = all_in_is w (omega arith) (built_digits wmof_built)

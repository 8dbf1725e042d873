-- u and k of a size and a sign, as the code finds them, are those of the number; and the bounds on u and k of every window, looked up or worked out.
-- Assumes nothing.
use mathlib.Core.Path.{◌≡◌, refl, sym, ap, subst, ◌∙◌}
use mathlib.Core.Logic.{◌≢◌}
use mathlib.Core.Bool.{Bool, true, false}
use Prim.Native.Nat.{ℕ, zero, suc, ◌+◌, ◌-◌, ◌*◌, ◌/◌, ◌%◌, ◌^◌, ◌≤◌, ◌<◌}
use native.Mathlib.Decide.{dec_le}
use native.Mathlib.Nat.{pow-succ', mul-add, mod-eq_of_lt, zero-div, div-eq_of_eq-mul_right, lt_of_mul-lt-mul_left}
use native.Mathlib.Omega.{arith}
use lib.Count.{count_trailing_zeros, under}
use lib.Dec.{eqb}
use lib.IntN.{ℤ, pos, neg_ℤ, nat_abs, ◌-ℤ◌, +ℤ_idr}
use lib.Pow.{pow_pos, pow_mono, pow-add, low, shr_le}
use Rattle.laws.proofs.Choices.{either, no_is, not_equal, unequal}
use Rattle.laws.proofs.Integers.{abs_neg, diffs, ring, minus}
use Rattle.laws.proofs.Powers.{pow_pred, pow_next, trailing_any, odd_part_is}
use Rattle.meaning.specs.Digits.{most_width}
use Rattle.meaning.specs.Windows.{leading, second, window_worth, twos, shrink, odd_part, entry_unit, entry_twos}
use Rattle.forms.proofs.Block.{unit_block}
use Rattle.width.specs.Widths.{Wide}
use Rattle.table.specs.declared.Window.{Window}
use Rattle.windows.specs.Parts.{Parts}
use Rattle.windows.proofs.Sizes.{Sized, signed, rise, fall}

-- the size of a size and a sign
abs_signed : (minus : Bool) (n : ℕ) → nat_abs (signed minus n) ≡ n
abs_signed true n = abs_neg n
abs_signed false n = refl

-- ---- a size n at the largest width, looked at as a number of 32 bits
module _ (n : ℕ) (some : 0 < n) (most : 2 * n ≤ 2 ^ most_width) where
  -- n is its odd part by its power of two
  found : (n ≡ 2 ^ count_trailing_zeros 32 n * (n / 2 ^ count_trailing_zeros 32 n)) × (n / 2 ^ count_trailing_zeros 32 n % 2 ≡ 1) × (count_trailing_zeros 32 n < 32)
  found = odd_part_is 32 n some (omega arith)

  -- its trailing zeros are fewer than its bits
  pub zeros_few : count_trailing_zeros 32 n < most_width
  zeros_few = omega (arith, trailing_any 32 most_width n some (omega arith) (omega arith), (odd_part_is most_width n some (omega arith)).2)

  -- the odd part of 2 ^ (w - 1) is 1
  pub odd_small : n / 2 ^ count_trailing_zeros 32 n < 2 ^ (most_width - 1)
  odd_small = omega (arith, found.1, shr_le n (count_trailing_zeros 32 n))

  -- so this is what is found
  pub found_parts : (minus : Bool) (u : ℤ) → u ≡ signed minus (n / 2 ^ count_trailing_zeros 32 n)
      → Parts most_width (signed minus (n / 2 ^ count_trailing_zeros 32 n)) (count_trailing_zeros 32 n) (record { unit = u; twos = count_trailing_zeros 32 n })
  found_parts minus u e = record { unit_is = e; twos_is = refl; small = rw (abs_signed minus (n / 2 ^ count_trailing_zeros 32 n)) odd_small; few = zeros_few }

-- ---- at a width
-- division toward 0 leaves the sign
shrink_signed : (p : ℕ) (minus : Bool) (n : ℕ) → 0 < n → shrink p (signed minus n) ≡ signed minus (n / p)
unfolding shrink
shrink_signed p false n h = refl
shrink_signed p true zero h = absurd (omega arith)
shrink_signed p true (suc n) h = refl

module _ (w : ℕ) (lawful : Wide w) (v : ℤ) where
  -- u and k of v are a digit and below w
  module _ (some : 0 < nat_abs v) (most : 2 * nat_abs v ≤ 2 ^ w) where
    unit_small : nat_abs (odd_part w v) < 2 ^ (w - 1)
    unit_small = omega (arith, (unit_block w lawful.0 v some most).digit.small, pow_pred w (omega arith))

    twos_few : twos w v < w
    twos_few = (odd_part_is w (nat_abs v) some (omega arith)).2

  -- and those of its size and its sign
  pub same_parts : (minus : Bool) (n : ℕ) → Sized w v minus n → (r : Window) → Parts most_width (signed minus (n / 2 ^ count_trailing_zeros 32 n)) (count_trailing_zeros 32 n) r → Parts w (odd_part w v) (twos w v) r
  same_parts minus n z r p =
      let wide : 2 ^ w ≤ 2 ^ most_width = pow_mono {i = w} {j = most_width} lawful.1 in
      let size : nat_abs v ≡ n = ap nat_abs z.is ∙ abs_signed minus n in
      let k : count_trailing_zeros 32 n ≡ twos w v = trailing_any 32 w n z.some (omega (arith, z.most)) (omega (arith, z.most, z.some)) ∙ ap (count_trailing_zeros w) (sym size) in
      let u : signed minus (n / 2 ^ count_trailing_zeros 32 n) ≡ odd_part w v =
      ap (λ t. signed minus (n / 2 ^ t)) k ∙ sym (shrink_signed (2 ^ twos w v) minus n z.some) ∙ ap (shrink (2 ^ twos w v)) (sym z.is) in
      let s : 0 < nat_abs v = omega (arith, z.some) in
      let m : 2 * nat_abs v ≤ 2 ^ w = omega (arith, z.most) in
      record { unit_is = p.unit_is ∙ u; twos_is = p.twos_is ∙ k; small = unit_small s m; few = twos_few s m }

-- ---- a window whose two leading bits are different
module _ (w s : ℕ) (lawful : Wide w) (l : s < 2 ^ (w + 1)) (d : leading w s ≢ second w s) where
  abbrev v : ℤ
  v = window_worth w s

  -- nothing less
  less_none : v -ℤ pos 0 ≡ v
  less_none = +ℤ_idr v

  -- v is not 0, and at most 2 ^ (w - 1) in size
  bounds : (0 < nat_abs v) × (2 * nat_abs v ≤ 2 ^ w)
  bounds = go (dec_le (2 ^ w) s)
    where
      of : (minus : Bool) (n : ℕ) → Sized w (v -ℤ pos 0) minus n → (0 < nat_abs v) × (2 * nat_abs v ≤ 2 ^ w)
      of minus n z =
          let size : nat_abs v ≡ n = ap nat_abs (sym less_none ∙ z.is) ∙ abs_signed minus n in
          omega (arith, z.some, z.most)

      go : Dec (2 ^ w ≤ s) → (0 < nat_abs v) × (2 * nat_abs v ≤ 2 ^ w)
      go (yes h) = of true (2 ^ w - (s + 1) / 2 + 0) (fall w s 0 lawful.0 l d (omega arith) h)
      go (no h) = of false ((s + 1) / 2 - 0) (rise w s 0 lawful.0 l d (omega arith) (omega arith))

  -- its entry holds what is worked out with nothing less
  pub agree_unit : entry_unit w s ≡ odd_part w (v -ℤ pos 0)
  unfolding entry_unit
  agree_unit = no_is (eqb (leading w s) (second w s)) (pos 0) (odd_part w v) (not_equal (leading w s) (second w s) d) ∙ ap (odd_part w) (sym less_none)

  -- in k too
  pub agree_twos : entry_twos w s ≡ twos w (v -ℤ pos 0)
  unfolding entry_twos
  agree_twos = no_is (eqb (leading w s) (second w s)) 0 (twos w v) (not_equal (leading w s) (second w s) d) ∙ ap (twos w) (sym less_none)

-- ---- what is worked out: half of the window, rounded up, and the part of it that leads, both without the factors 2 of the half
-- what is missing to a power of two has as many trailing zeros
zeros_missing : (d w h : ℕ) → 0 < h → h < 2 ^ w → count_trailing_zeros d (2 ^ w - h) ≡ count_trailing_zeros d h
unfolding count_trailing_zeros
zeros_missing zero w h s l = refl
zeros_missing (suc d) zero h s l = absurd (omega arith)
zeros_missing (suc d) (suc w) h s l = go (h % 2) refl (λ e. zeros_missing d w (h / 2) (omega arith) (omega (arith, pow-succ' 2 w)))
  where
    go : (r : ℕ) → h % 2 ≡ r → (h % 2 ≡ 0 → count_trailing_zeros d (2 ^ w - h / 2) ≡ count_trailing_zeros d (h / 2))
        → under ((2 ^ suc w - h) % 2) (count_trailing_zeros d ((2 ^ suc w - h) / 2)) ≡ under (h % 2) (count_trailing_zeros d (h / 2))
    go zero e f =
        let p : (2 ^ suc w - h) % 2 ≡ 0 = omega (arith, pow-succ' 2 w) in
        let q : (2 ^ suc w - h) / 2 ≡ 2 ^ w - h / 2 = omega (arith, pow-succ' 2 w) in
        rw (p, q, e) (ap suc (f e))
    go (suc r) e f =
        let p : (2 ^ suc w - h) % 2 ≡ 1 = omega (arith, pow-succ' 2 w) in
        let q : h % 2 ≡ 1 = omega arith in
        rw (p, q) refl

pub negated : (a b : ℕ) → a ≤ b → neg_ℤ (pos (b - a)) ≡ pos a -ℤ pos b
negated a b h = rw (minus (b - a), minus b) (simp diffs (omega ring))

module _ (w s less : ℕ) (lawful : Wide w) (l : s < 2 ^ (w + 1)) (d : leading w s ≢ second w s) (o : less ≤ s % 2) where
  abbrev half : ℕ
  half = (s + 1) / 2 - less

  abbrev k : ℕ
  k = count_trailing_zeros 32 half

  abbrev up : ℕ
  up = half / 2 ^ k

  abbrev down : ℕ
  down = (s - s % 2 ^ w) / 2 ^ k

  abbrev worth : ℤ
  worth = window_worth w s -ℤ pos less

  pub record Worked : Type 0 where
    pub few : k < 32
    pub close : (up < down + 128) × (down < up + 128)
    pub is : (u : ℤ) → u ≡ pos up -ℤ pos down → Parts w (odd_part w worth) (twos w worth) (record { unit = u; twos = k })

  wide : 2 ^ w ≤ 2 ^ most_width
  wide = pow_mono {i = w} {j = most_width} lawful.1

  -- by its size and its sign
  of : (b : Bool) (n : ℕ) → Sized w worth b n → count_trailing_zeros 32 n ≡ k → pos up -ℤ pos down ≡ signed b (n / 2 ^ k) → (n / 2 ^ k < 128 → (up < down + 128) × (down < up + 128)) → Worked
  of b n z e i c =
      let most : 2 * n ≤ 2 ^ most_width = omega (arith, z.most, wide) in
      let small = odd_small n z.some most in
      let few = zeros_few n z.some most in
      record {
        few = omega (arith, few, e);
        close = c (rw e at small);
        is = λ u q. same_parts w lawful worth b n z _ (subst (λ t. Parts most_width (signed b (n / 2 ^ count_trailing_zeros 32 n)) (count_trailing_zeros 32 n) (record { unit = u; twos = t })) e (found_parts n z.some most b u (q ∙ i ∙ ap (λ t. signed b (n / 2 ^ t)) (sym e))));
      }

  pub worked_out : Worked
  worked_out = go (dec_le (2 ^ w) s)
    where
      go : Dec (2 ^ w ≤ s) → Worked
      go (yes h) =
          let z = fall w s less lawful.0 l d o h in
          let P = 2 ^ k in
          let A = 2 ^ (w - k) in
          let n_is : 2 ^ w - (s + 1) / 2 + less ≡ 2 ^ w - half = omega (arith, pow_next w) in
          let some : 0 < half = omega (arith, z.most, z.some, n_is) in
          let under : half < 2 ^ w = omega (arith, z.some, n_is) in
          let under_32 : half < 2 ^ 32 = omega (arith, wide) in
          let e : count_trailing_zeros 32 (2 ^ w - (s + 1) / 2 + less) ≡ k = ap (count_trailing_zeros 32) n_is ∙ zeros_missing 32 w half some under in
          let short : k < w = omega (arith, trailing_any 32 w half some under_32 under, (odd_part_is w half some under).2) in
          let top : s ≡ 1 * 2 ^ w + (s - 2 ^ w) = omega arith in
          let leads : s - s % 2 ^ w ≡ 2 ^ w = omega (arith, ap (λ t. t % 2 ^ w) top ∙ low 1 w (omega (arith, pow_next w))) in
          let full : 2 ^ w ≡ P * A = ap (λ t. 2 ^ t) (omega arith) ∙ pow-add 2 k (w - k) in
          let down_is : down ≡ A = ap (λ t. t / P) leads ∙ div-eq_of_eq-mul_right (pow_pos k) full in
          let up_is : half ≡ P * up = (odd_part_is 32 half some under_32).0 in
          let less_up : up < A = lt_of_mul-lt-mul_left P {m = up} {n = A} (omega (arith, up_is, full, under)) in
          let gap : A ≡ up + (A - up) = omega arith in
          let rest : 2 ^ w - half ≡ P * (A - up) = omega (arith, full, up_is, ap (λ t. P * t) gap ∙ mul-add P up (A - up)) in
          let size : (2 ^ w - (s + 1) / 2 + less) / P ≡ A - up = ap (λ t. t / P) n_is ∙ div-eq_of_eq-mul_right (pow_pos k) rest in
          let i : pos up -ℤ pos down ≡ neg_ℤ (pos ((2 ^ w - (s + 1) / 2 + less) / P)) = ap (λ t. pos up -ℤ pos t) down_is ∙ sym (negated up A (omega arith)) ∙ ap (λ t. neg_ℤ (pos t)) (sym size) in
          of true (2 ^ w - (s + 1) / 2 + less) z e i (λ q. omega (arith, size, down_is))
      go (no h) =
          let z = rise w s less lawful.0 l d o (omega arith) in
          let none : down ≡ 0 = ap (λ t. t / 2 ^ k) (omega (arith, mod-eq_of_lt {n = s} {m = 2 ^ w} (omega arith))) ∙ zero-div (2 ^ k) in
          of false half z refl (ap (λ t. pos up -ℤ pos t) none ∙ +ℤ_idr (pos up)) (λ q. omega (arith, none))

-- ---- any window
module _ (w s : ℕ) (lawful : Wide w) (l : s < 2 ^ (w + 1)) where
  -- u of its entry is below 2 ^ (w - 1) in size
  pub entry_small : nat_abs (entry_unit w s) < 2 ^ (w - 1)
  unfolding entry_unit
  entry_small =
      either (λ u. nat_abs u < 2 ^ (w - 1)) (eqb (leading w s) (second w s)) (λ t. pow_pos (w - 1))
      (λ t. let b = bounds w s lawful l (unequal (leading w s) (second w s) t) in unit_small w lawful (window_worth w s) b.0 b.1)

  -- and k below w
  pub entry_few : entry_twos w s < w
  unfolding entry_twos
  entry_few =
      either (λ k. k < w) (eqb (leading w s) (second w s)) (λ t. omega arith)
      (λ t. let b = bounds w s lawful l (unequal (leading w s) (second w s) t) in twos_few w lawful (window_worth w s) b.0 b.1)

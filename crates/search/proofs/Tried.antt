-- What the search has found when the first digits were tried at the lowest place: one digit more, by what is left over it, and all of them.
-- Assumes nothing.
use mathlib.Core.Path.{◌≡◌, subst, sym, ap, ◌∙◌}
use mathlib.Core.Logic.{◌≢◌, ◌⊎◌, inl, inr}
use mathlib.Core.List.{List, [], ◌∷◌}
use Prim.Native.Nat.{ℕ, suc, ◌+◌, ◌-◌, ◌/◌, ◌%◌, ◌^◌, ◌≤◌, ◌<◌, min}
use native.Mathlib.Decide.{dec_lt}
use native.Mathlib.Omega.{arith}
use lib.IntN.{ℤ, pos, neg_ℤ, nat_abs, ◌+ℤ◌, ◌*ℤ◌}
use lib.ListN.{get_or}
use Rattle.meaning.specs.Digits.{largest}
use Rattle.meaning.specs.Searching.{search_places, Spells}
use Rattle.width.specs.Widths.{Wide}
use Rattle.search.specs.Least.{digit_at, left_over, Least}
use Rattle.search.proofs.Negated.{least_negated}
use Rattle.search.proofs.Lowest.{put, rest, lowest_parity, lowest_in}
use Rattle.search.proofs.Order.{number_of, digit_numbered, number_small, number_at, numbered_in, nonzero_at, left_parity, above}
use Rattle.search.proofs.Lightest.{Lightest, lightest_of, lightest_is, lightest_as, Ways, other, over, lightest_ways}

-- the strings that are worth m and whose lowest digit is among the first
abbrev Under : (w places m first : ℕ) → List ℤ → Type 0
Under w places m first ds = Spells w places (pos m) ds × (number_of (get_or ds 0 (pos 0)) < first)

-- the best of them when so many digits were tried
abbrev pub Tried : (w places m first best : ℕ) → Type 0
Tried w places m first best = Lightest (Under w places m first) best

module _ (w m : ℕ) {places p : ℕ} (few : places ≤ search_places) (next : places ≡ suc p) where
  -- a string with one digit more at the lowest place has that digit or one before it
  last : {i : ℕ} {d : ℤ} {ds : List ℤ} {P : Type 0} → (number_of d < i → P) → (d ≡ digit_at i → P) → Under w places m (i + 1) (d ∷ ds) → P
  last {i} {d} {ds} {P} f g (s, h) = go (dec_lt (number_of d) i)
    where
      go : Dec (number_of d < i) → P
      go (yes l) = f l
      go (no l) =
          let e : number_of d ≡ i = omega arith in
          g (sym (digit_numbered (largest w) d (lowest_in s)) ∙ ap digit_at e)

  -- ---- one digit more
  module _ (i r : ℕ) (left : r ≡ left_over m i) where
    -- over which something odd is left: no string has it
    pub tried_odd : {best : ℕ} → r % 2 ≢ 0 → Tried w places m i best → Tried w places m (i + 1) best
    tried_odd n t = lightest_as (λ ds u. (u.0, omega arith)) under t
      where
        under : (ds : List ℤ) → Under w places m (i + 1) ds → Under w places m i ds
        under [] (s, h) = absurd (omega (arith, s.length_is))
        under (d ∷ ds) (s, h) = last (λ l. (s, l)) (λ e. absurd (n (left_parity m r (digit_at i) left (ap (λ x. nat_abs x % 2) (sym e) ∙ lowest_parity s)))) (s, h)

    -- over which the places above are worth u
    module _ (law : Wide w) (fits : i < 2 ^ (w - 1) + 1) (u : ℤ) (sum : pos m ≡ digit_at i +ℤ pos 2 *ℤ u) where
      abbrev More : List ℤ → Type 0
      More ds = Ways (Under w places m i) (Spells w p u) (digit_at i) ds

      more_of : (ds : List ℤ) → Under w places m (i + 1) ds → More ds
      more_of [] (s, h) = absurd (omega (arith, s.length_is))
      more_of (d ∷ ds) (s, h) = last (λ l. other (s, l)) (λ e. subst (λ x. More (x ∷ ds)) (sym e) (over (rest next sum e s))) (s, h)

      more_is : {ds : List ℤ} → More ds → Under w places m (i + 1) ds
      more_is (other (s, h)) = (s, omega arith)
      more_is (over s) = (put next sum (numbered_in w i law fits) s, omega (arith, number_at i))

      tried_over : {best a : ℕ} → Tried w places m i best → Least w p u a → Tried w places m (i + 1) (min best (a + min i 1))
      tried_over {best} {a} t l =
          subst (λ n. Tried w places m (i + 1) (min best (a + n))) (nonzero_at i)
          (lightest_as (λ ds s. more_is s) more_of (lightest_ways t (lightest_of (omega arith) l)))

    -- over which something even is left, whose half was searched
    pub tried_even : {best a : ℕ} → Wide w → i < 2 ^ (w - 1) + 1 → r % 2 ≡ 0 → Tried w places m i best → Least w p (pos (r / 2)) a
        → Tried w places m (i + 1) (min best (a + min i 1))
    tried_even {best} {a} law fits e t l = go (above m r (digit_at i) left e)
      where
        go : (pos m ≡ digit_at i +ℤ pos 2 *ℤ pos (r / 2)) ⊎ (pos m ≡ digit_at i +ℤ pos 2 *ℤ neg_ℤ (pos (r / 2)))
            → Tried w places m (i + 1) (min best (a + min i 1))
        go (inl q) = tried_over law fits (pos (r / 2)) q t l
        go (inr q) = tried_over law fits (neg_ℤ (pos (r / 2))) q t (least_negated l)

  -- no other digit can stand there
  pub tried_all : {first best : ℕ} → largest w + 2 ≤ first → Tried w places m first best → Least w places (pos m) best
  tried_all {first} h t = lightest_is few (lightest_as (λ ds u. u.0) under t)
    where
      under : (ds : List ℤ) → Spells w places (pos m) ds → Under w places m first ds
      under [] s = absurd (omega (arith, s.length_is))
      under (d ∷ ds) s = (s, omega (arith, number_small (largest w) d (lowest_in s)))

-- The rules of both strings, by what the two checks answer; which string is the lighter, and that the part lies in it. Assumes nothing.
use mathlib.Core.Path.{◌≡◌, sym, ap, subst, ◌∙◌}
use mathlib.Core.Logic.{◌≢◌}
use mathlib.Core.List.{List, [], ◌∷◌}
use Prim.Native.Nat.{ℕ, ◌<◌, ◌≤◌}
use native.Mathlib.Omega.{arith}
use native.Mathlib.Decide.{ℕ_discrete}
use borrow.Author.Tests.{le-leb, lt-leb}
use lib.IntN.{ℤ}
use lib.ListN.{length}
use Rattle.meaning.specs.Scalars.{Order}
use Rattle.meaning.specs.Digits.{largest, weight, top, Tally}
use Rattle.meaning.specs.Refusals.{First, granted, bad_width, long_scalar}
use Rattle.meaning.specs.Checking.{string_rules, worth_rules, check_rules, Check}
use Rattle.meaning.specs.Whole.{CheckWhole}
use Rattle.meaning.specs.Lighter as Lighter
use Rattle.meaning.specs.Lighter.{one_of, lighter_of, lighter_rules, Pick}
use Rattle.forms.proofs.Refusals.{clear, first_kept, first_with, granted_none, granted_all}
use Rattle.forms.proofs.Strings.{top_le}
use Rattle.forms.proofs.Wholes.{check_whole}
use Rattle.width.specs.declared.DigitSet.{DigitSet}
use Rattle.width.specs.Widths.{Entire}

-- ---- which is the lighter
pub first_lighter : (x y : List ℤ) → weight x ≤ weight y → lighter_of x y ≡ 0
unfolding lighter_of
first_lighter x y h = simp (le-leb (weight x) (weight y) h)

pub second_lighter : (x y : List ℤ) → weight y < weight x → lighter_of x y ≡ 1
unfolding lighter_of
second_lighter x y h = simp (lt-leb (weight x) (weight y) h)

-- ---- the part
-- it lies in its string
pub pick_fits : {w : ℕ} {o : Order} {s : List ℕ} {x y : List ℤ} {a : Lighter.Picked} → Pick w o s x y a → a.places ≤ length (one_of a.which x y)
pick_fits {x = x} {y = y} {a = a} p = go (ℕ_discrete a.refusal 0)
  where
    go : Dec (a.refusal ≡ 0) → a.places ≤ length (one_of a.which x y)
    go (yes z) =
        let k : a.which ≡ lighter_of x y = p.which_is ∙ granted_all a.refusal (lighter_of x y) z in
        omega (arith, p.places_are, granted_all a.refusal (top (one_of (lighter_of x y) x y)) z, top_le (one_of (lighter_of x y) x y), ap (λ i. length (one_of i x y)) k)
    go (no n) = omega (arith, p.places_are, granted_none a.refusal (top (one_of (lighter_of x y) x y)) n)

-- ---- the checks, by the width alone
pub whole_of : (w : ℕ) (set : DigitSet) → Entire w set → (o : Order) (s : List ℕ) (ds : List ℤ) (a : Tally) → Check (check_rules set.width set.largest o s ds) ds a → CheckWhole w o s ds a
whole_of w set e o s ds a c = (check_whole w set.largest (λ l m. e.largest_is (l, m)) o s ds a).0 (rw e.width_is at c)

-- ---- the rules
module _ (w : ℕ) (o : Order) (s : List ℕ) (x y : List ℤ) where
  -- a refusal by any rules of the first string, or of the second after them
  refused_pick : {r p : ℕ} → First (lighter_rules w o s x y) r p → r ≢ 0 → Pick w o s x y (record { refusal = r; which = 0; places = 0 })
  refused_pick {r} {p} f n =
      record { place = p; first = f; which_is = sym (granted_none r (lighter_of x y) n); places_are = sym (granted_none r (top (one_of (lighter_of x y) x y)) n) }

  module _ {one : Tally} (c : CheckWhole w o s x one) where
    -- the first string is refused
    pub first_number : one.refusal ≢ 0 → First (lighter_rules w o s x y) one.refusal one.place
    first_number n = first_kept (bad_width w ∷ worth_rules (largest w) o s x) (string_rules (largest w) o s y) one.refusal one.place n c.first

    pub first_refused : one.refusal ≢ 0 → Pick w o s x y (record { refusal = one.refusal; which = 0; places = 0 })
    first_refused n = refused_pick (first_number n) n

    -- it is accepted: then the second's rules decide
    module _ (z : one.refusal ≡ 0) {other : Tally} (d : CheckWhole w o s y other) where
      pub both_number : First (lighter_rules w o s x y) other.refusal other.place
      both_number =
          let k = clear (bad_width w ∷ worth_rules (largest w) o s x) tt one.refusal one.place c.first z in
          first_with (bad_width w ∷ long_scalar s ∷ []) (string_rules (largest w) o s x) (string_rules (largest w) o s y) other.refusal other.place (λ _. k.1.1) d.first

      pub second_refused : other.refusal ≢ 0 → Pick w o s x y (record { refusal = other.refusal; which = 0; places = 0 })
      second_refused n = refused_pick both_number n

      module _ (v : other.refusal ≡ 0) where
        accepted : First (lighter_rules w o s x y) 0 other.place
        accepted = subst (λ r. First (lighter_rules w o s x y) r other.place) v both_number

        weigh_one : one.weight ≡ weight x
        weigh_one = c.weight_is ∙ ap (λ r. granted r (weight x)) z

        weigh_other : other.weight ≡ weight y
        weigh_other = d.weight_is ∙ ap (λ r. granted r (weight y)) v

        pub picks_first : one.weight ≤ other.weight → Pick w o s x y (record { refusal = 0; which = 0; places = one.top })
        picks_first h =
            let k = first_lighter x y (omega (arith, weigh_one, weigh_other)) in
            record {
              place = other.place;
              first = accepted;
              which_is = sym k;
              places_are = c.top_is ∙ ap (λ r. granted r (top x)) z ∙ ap (λ i. top (one_of i x y)) (sym k);
            }

        pub picks_second : other.weight < one.weight → Pick w o s x y (record { refusal = 0; which = 1; places = other.top })
        picks_second h =
            let k = second_lighter x y (omega (arith, weigh_one, weigh_other)) in
            record {
              place = other.place;
              first = accepted;
              which_is = sym k;
              places_are = d.top_is ∙ ap (λ r. granted r (top y)) v ∙ ap (λ i. top (one_of i x y)) (sym k);
            }

-- The shorter top of another maker, from the calls' promises: where recode's wNAF has the top digit 1 and a negative digit w places below it, the string with 2 ^ (w - 1) added to
-- that digit and the 1 a place lower is accepted by check, with the weight that recode answered and a top one lower; check_nonadjacent refuses it with 10 at the place of that digit.
-- For every width that recode accepts, and however many zeros stand above. Assumes nothing.
use mathlib.Core.Path.{◌≡◌, refl, ap, ◌∙◌}
use mathlib.Core.List.{List, [], ◌∷◌}
use Prim.Native.Nat.{ℕ, ◌-◌, ◌≤◌}
use native.Mathlib.Omega.{arith}
use lib.IntN.{ℤ, pos, negsuc}
use lib.ListN.{length, get_or-eq_default}
use Rattle.meaning.specs.Scalars.{Order, number, bit_count}
use Rattle.meaning.specs.Digits.{most_places, largest, top, Tally}
use Rattle.meaning.specs.Fractional.{Fractional}
use Rattle.meaning.specs.Forms.{Has, asked}
use Rattle.meaning.specs.Refusals.{Lowest}
use Rattle.meaning.specs.Checking.{Crowded, check_rules, nonadjacent_rules}
use Rattle.forms.proofs.Refusals.{first_at}
use Rattle.forms.proofs.Whole.{least_is}
use Rattle.forms.proofs.Shorter.{LongTop, Lowered, Shorter, shorter_top, lowered, lowered_length, lowered_is}
use Rattle.scalar.proofs.Bytes.{Bytes}
use Rattle.promises.proofs.Recode as Recoding
use Rattle.promises.proofs.Check as Checking
use Rattle.promises.proofs.Check.{Legal, legal_clear, check_determined, check_yes_only}
use Rattle.promises.proofs.Demand2.{recoded_form}
use Rattle.promises.proofs.EndToEnd.{string, weight_is, top_is, recoded_legal}

module _ {w i : ℕ} {order : Order} {s : List ℕ} {digits₀ : List ℤ} {marks₀ : List ℕ} (o : Recoding.Outcome) (K : Recoding.Keeps 2 w (largest w) order s digits₀ marks₀ o) (z : o.tally.refusal ≡ 0)
    (bytes : Bytes s) (L : LongTop w i (string 2 w (largest w) o K z bytes)) where
  legal : Legal w (largest w) order s (string 2 w (largest w) o K z bytes)
  legal = recoded_legal 2 w (largest w) o K z bytes

  module _ {es : List ℤ} (S : Lowered w i (string 2 w (largest w) o K z bytes) es) (short : length es ≤ most_places) where
    shorter : Shorter w (number order s) i (string 2 w (largest w) o K z bytes) es
    unfolding asked Has
    shorter =
        let F : Fractional w (largest w) (number order s) (bit_count s) (string 2 w (largest w) o K z bytes) = recoded_form 2 w (largest w) o K z bytes in
        shorter_top legal.pair.between.wide ((least_is w legal.pair.between.wide (number order s) (bit_count s) (string 2 w (largest w) o K z bytes)).0 F) L S

    -- it is legal
    shorter_legal : Legal w (largest w) order s es
    shorter_legal = record { pair = legal.pair; few = legal.few; short = short; digits = shorter.is_in_set; worth_is = shorter.worth_is }

    -- check says yes: the weight that recode answered, and a top one lower
    pub shorter_checked : (v : Tally) → Checking.Keeps (check_rules w (largest w) order s es) es v → v ≡ record { refusal = 0; place = 0; weight = o.tally.weight; top = o.tally.top - 1 }
    shorter_checked v C =
        check_yes_only w (largest w) order s es shorter_legal v C
        ∙ ap (λ k. record { refusal = 0; place = 0; weight = k; top = top es }) (shorter.weight_is ∙ weight_is 2 w (largest w) o K z bytes)
        ∙ ap (λ t. record { refusal = 0; place = 0; weight = o.tally.weight; top = t }) (omega (arith, shorter.top_is, shorter.top_was, top_is 2 w (largest w) o K z bytes))

    -- check_nonadjacent refuses it with 10, at the place of the digit that was negative
    pub shorter_nonadjacent : (v : Tally) → Checking.Keeps (nonadjacent_rules w (largest w) order s es) es v → v ≡ record { refusal = 10; place = i; weight = 0; top = 0 }
    shorter_nonadjacent v C =
        let (a, (x, (b, (c, (d, (e, _)))))) = legal_clear w (largest w) order s es shorter_legal in
        check_determined (nonadjacent_rules w (largest w) order s es) es v _ C
        (record { first = first_at (nonadjacent_rules w (largest w) order s es) 6 i (a, (x, (b, (c, (d, (e, first)))))); weight_is = refl; top_is = refl })
      where
        first : Lowest (Crowded w es) i
        first = (shorter.there, λ q l c. omega (arith, (shorter.nowhere_else q c.other c.above c.near c.here c.there).0))

  -- there is such a string
  pub shorter_is : (es : List ℤ) × Lowered w i (string 2 w (largest w) o K z bytes) es × (length es ≤ most_places)
  shorter_is = let two = legal.pair.between.wide in (lowered two L, lowered_is two L, omega (arith, lowered_length two L, legal.short))

-- ---- 349 at width 4, P6: 1 at place 9, -5 at 5, -3 at 0
abbrev pub known : List ℤ
known = negsuc 2 ∷ pos 0 ∷ pos 0 ∷ pos 0 ∷ pos 0 ∷ negsuc 4 ∷ pos 0 ∷ pos 0 ∷ pos 0 ∷ pos 1 ∷ []

pub known_long : LongTop 4 5 known
known_long = record { one = refl; highest = λ j l. get_or-eq_default known (pos 0) {n = j} (omega arith); size = 4; negative = refl }

-- with the shorter top: 1 at place 8, 3 at 5, -3 at 0
pub known_shorter : lowered (omega arith) known_long ≡ negsuc 2 ∷ pos 0 ∷ pos 0 ∷ pos 0 ∷ pos 0 ∷ pos 3 ∷ pos 0 ∷ pos 0 ∷ pos 1 ∷ pos 0 ∷ []
known_shorter = refl

-- The promise of the two checks: two answers that satisfy it for one input are equal, and yes for exactly the legal strings. Assumes nothing.
use mathlib.Core.Path.{◌≡◌, refl, sym, ap, ◌∙◌}
use mathlib.Core.Logic.{◌≢◌}
use mathlib.Core.Bool.{Bool, true, false, not}
use mathlib.Core.List.{List}
use Prim.Native.Nat.{ℕ, ◌≤◌}
use native.Mathlib.Omega.{arith}
use lib.Dec.{T}
use lib.IntN.{ℤ, pos, ℤ_discrete}
use lib.ListN.{length, get_or}
use Rattle.laws.proofs.Choices.{not_below, passes}
use Rattle.meaning.specs.Scalars.{Order, number, most_bytes}
use Rattle.meaning.specs.Digits.{most_places, in_set, all_in, worth, weight, top, Tally, Apart}
use Rattle.meaning.specs.Refusals.{Rule, granted}
use Rattle.meaning.specs.Checking.{BadDigit, Crowded, check_rules, nonadjacent_rules, Check}
use Rattle.forms.proofs.Refusals.{first_only, Clear, first_none, clear}
use Rattle.forms.proofs.Strings.{all_in_is, all_at}
use Rattle.meaning.specs.Sets.{Pair}
use Rattle.width.proofs.Widths.{set_fine, pair_of}

-- the answer satisfies the promise of a check by these rules
abbrev pub Keeps : List Rule → List ℤ → Tally → Type 0
Keeps rules ds v = Check rules ds v

-- answers are equal by their fields
made : (r p k t : ℕ) → Tally
made r p k t = record { refusal = r; place = p; weight = k; top = t }

-- one answer only, by any rules
pub check_determined : (rules : List Rule) (ds : List ℤ) (a b : Tally) → Keeps rules ds a → Keeps rules ds b → a ≡ b
unfolding made
check_determined rules ds a b K L =
    let (r, p) = first_only rules K.first L.first in
    let k = K.weight_is ∙ ap (λ x. granted x (weight ds)) r ∙ sym L.weight_is in
    let t = K.top_is ∙ ap (λ x. granted x (top ds)) r ∙ sym L.top_is in
    let same : made a.refusal a.place a.weight a.top ≡ made b.refusal b.place b.weight b.top = cc in
    same

-- ---- yes
-- a legal string worth the scalar: at most 529 digits, all of a set, and a scalar of at most 66 bytes that it is worth
pub record Legal (w l : ℕ) (order : Order) (s : List ℕ) (ds : List ℤ) : Type 0 where
  pub pair : Pair w l
  pub few : length s ≤ most_bytes
  pub short : length ds ≤ most_places
  pub digits : T (all_in l ds)
  pub worth_is : worth ds ≡ pos (number order s)

fails : (b : Bool) → T b → T (not b) → ⊥
fails true t f = f
fails false t f = t

-- numbers that are not unequal are equal
same : (a b : ℤ) → (a ≢ b → ⊥) → a ≡ b
same a b n = go (ℤ_discrete a b)
  where
    go : Dec (a ≡ b) → a ≡ b
    go (yes e) = e
    go (no h) = absurd (n h)

module _ (w l : ℕ) (order : Order) (s : List ℕ) (ds : List ℤ) where
  -- no rule of the plain check applies to a legal string, and to no other
  pub legal_clear : Legal w l order s ds → Clear (check_rules w l order s ds)
  legal_clear L =
      let sound : (p : ℕ) → BadDigit l ds p → ⊥ = λ p h. fails (in_set l (get_or ds p (pos 0))) (all_at l ds L.digits p h.within) h.bad in
      ((set_fine L.pair).0, ((set_fine L.pair).1, ((λ h. omega (arith, L.few)), ((λ h. omega (arith, L.short)), (sound, ((λ h. h L.worth_is), tt))))))

  clear_legal : Clear (check_rules w l order s ds) → Legal w l order s ds
  clear_legal (_, (a, (b, (c, (d, (e, _)))))) =
      record {
        pair = pair_of w l a;
        few = not_below b;
        short = not_below c;
        digits = all_in_is l ds (λ i h. passes (in_set l (get_or ds i (pos 0))) (λ f. d i (record { within = h; bad = f })));
        worth_is = same (worth ds) (pos (number order s)) e;
      }

  -- nonzero digits stand apart exactly when none is crowded
  apart_none : Apart w ds → (p : ℕ) → Crowded w ds p → ⊥
  apart_none A p c = c.there (A.one_of p c.other c.above c.near c.here)

  none_apart : ((p : ℕ) → Crowded w ds p → ⊥) → Apart w ds
  none_apart n =
      record {
        one_of = λ i j b m h. same (get_or ds j (pos 0)) (pos 0) (λ k. n i (record { other = j; above = b; near = m; here = h; there = k }));
      }

  -- the plain check says yes for exactly the legal strings
  pub check_yes : (v : Tally) → Keeps (check_rules w l order s ds) ds v → v.refusal ≡ 0 → Legal w l order s ds
  check_yes v K z = clear_legal (clear (check_rules w l order s ds) tt v.refusal v.place K.first z)

  pub check_yes_only : Legal w l order s ds → (v : Tally) → Keeps (check_rules w l order s ds) ds v → v ≡ record { refusal = 0; place = 0; weight = weight ds; top = top ds }
  check_yes_only L v K = check_determined (check_rules w l order s ds) ds v _ K (record { first = first_none (check_rules w l order s ds) (legal_clear L); weight_is = refl; top_is = refl })

  -- and the nonadjacent check for those of them whose nonzero digits stand at least w places apart
  pub nonadjacent_yes : (v : Tally) → Keeps (nonadjacent_rules w l order s ds) ds v → v.refusal ≡ 0 → Legal w l order s ds × Apart w ds
  nonadjacent_yes v K z =
      let (a, (b, (c, (d, (e, (f, (g, _))))))) = clear (nonadjacent_rules w l order s ds) tt v.refusal v.place K.first z in
      (clear_legal (a, (b, (c, (d, (e, (f, tt)))))), none_apart g)

  pub nonadjacent_yes_only : Legal w l order s ds → Apart w ds → (v : Tally) → Keeps (nonadjacent_rules w l order s ds) ds v → v ≡ record { refusal = 0; place = 0; weight = weight ds; top = top ds }
  nonadjacent_yes_only L A v K =
      let (a, (b, (c, (d, (e, (f, _)))))) = legal_clear L in
      check_determined (nonadjacent_rules w l order s ds) ds v _ K
      (record { first = first_none (nonadjacent_rules w l order s ds) (a, (b, (c, (d, (e, (f, (apart_none A, tt))))))); weight_is = refl; top_is = refl })

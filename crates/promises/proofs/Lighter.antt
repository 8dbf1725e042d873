-- The promises of the lighter of two strings: two answers, two parts and two numbers for one input are equal; the number is that of the first string's check, and where that accepts, of the
-- second's; an accepted part is worth the scalar, weighs no more than either string, and ends with a nonzero digit; a refused one is empty. The second on a tie, or a part that is not cut,
-- cannot keep them. Assumes nothing.
use mathlib.Core.Path.{◌≡◌, refl, sym, ap, ◌∙◌}
use mathlib.Core.Logic.{◌≢◌}
use mathlib.Core.List.{List, [], ◌∷◌}
use Prim.Native.Nat.{ℕ, zero, suc, ◌+◌, ◌≤◌}
use native.Mathlib.Omega.{arith}
use native.Mathlib.Decide.{ℕ_discrete, dec_le}
use lib.Dec.{T, lit≤}
use lib.IntN.{ℤ, pos, negsuc, ◌+ℤ◌, ◌*ℤ◌}
use lib.ListN.{length, take}
use lib.Seq.{length-take-le}
use Rattle.meaning.specs.Scalars.{Order, highest_first, number}
use Rattle.meaning.specs.Digits.{largest, in_set, all_in, nonzero, worth, weight, top, over, Tally}
use Rattle.meaning.specs.Refusals.{granted}
use Rattle.meaning.specs.Checking.{check_rules, Check}
use Rattle.meaning.specs.Whole.{CheckWhole}
use Rattle.meaning.specs.Lighter.{one_of, lighter_of, lighter_rules, Picked, Pick, Lighter, LighterRefusal}
use Rattle.forms.proofs.Refusals.{Clear, clear, first_only, first_none, granted_none, granted_all}
use Rattle.forms.proofs.Strings.{nonzero_le, over_none, top_le}
use Rattle.width.proofs.Widths.{wide_of, whole_pair}
use Rattle.forms.proofs.Wholes.{check_whole}
use Rattle.lighter.proofs.Picks.{first_lighter, second_lighter, first_number, first_refused, both_number, second_refused, picks_first, picks_second}
use Rattle.promises.proofs.Instances.{check_kept_by}
use Rattle.promises.proofs.Check.{Legal, legal_clear, check_yes}

-- ---- determined
pub pick_determined : (w : ℕ) (o : Order) (s : List ℕ) (x y : List ℤ) (a b : Picked) → Pick w o s x y a → Pick w o s x y b → a ≡ b
pick_determined w o s x y a b K L =
    let r = (first_only (lighter_rules w o s x y) K.first L.first).0 in
    let i = K.which_is ∙ ap (λ t. granted t (lighter_of x y)) r ∙ sym L.which_is in
    let n = K.places_are ∙ ap (λ t. granted t (top (one_of (lighter_of x y) x y))) r ∙ sym L.places_are in
    ap (λ t. record { refusal = t; which = a.which; places = a.places }) r ∙ ap (λ t. record { refusal = b.refusal; which = t; places = a.places }) i
    ∙ ap (λ t. record { refusal = b.refusal; which = b.which; places = t }) n

pub lighter_determined : (w : ℕ) (o : Order) (s : List ℕ) (x y p q : List ℤ) → Lighter w o s x y p → Lighter w o s x y q → p ≡ q
lighter_determined w o s x y p q K L =
    K.part_is ∙ ap (λ (a : Picked). take a.places (one_of a.which x y)) (pick_determined w o s x y K.picked L.picked K.pick L.pick) ∙ sym L.part_is

pub lighter_refusal_determined : (w : ℕ) (o : Order) (s : List ℕ) (x y : List ℤ) (r t : ℕ) → LighterRefusal w o s x y r → LighterRefusal w o s x y t → r ≡ t
lighter_refusal_determined w o s x y r t K L =
    K.number_is ∙ ap (λ (a : Picked). a.refusal) (pick_determined w o s x y K.picked L.picked K.pick L.pick) ∙ sym L.number_is

-- ---- exactly when: the checks' numbers are told by theorems of their own
module _ (w : ℕ) (o : Order) (s : List ℕ) (x y : List ℤ) (a : Picked) (K : Pick w o s x y a) {one other : Tally} (c : CheckWhole w o s x one) (d : CheckWhole w o s y other) where
  -- a refusal of the first string stands
  pub lighter_first : one.refusal ≢ 0 → a.refusal ≡ one.refusal
  lighter_first n = (first_only (lighter_rules w o s x y) K.first (first_number w o s x y c n)).0

  -- and else the second's decides
  pub lighter_second : one.refusal ≡ 0 → a.refusal ≡ other.refusal
  lighter_second z = (first_only (lighter_rules w o s x y) K.first (both_number w o s x y c z d)).0

-- it is 0 exactly for two legal strings of the whole width, both worth the scalar
module _ (w : ℕ) (o : Order) (s : List ℕ) (x y : List ℤ) (a : Picked) (K : Pick w o s x y a) where
  pub lighter_legal : a.refusal ≡ 0 → Legal w (largest w) o s x × Legal w (largest w) o s y
  lighter_legal z =
      let (b, (l, (p, (q, (r, (t, (u, (v, _)))))))) = clear (lighter_rules w o s x y) tt a.refusal K.place K.first z in
      let pair = whole_pair (wide_of w b) in
      (legal_of x (b, ((λ n. n pair), (l, (p, (q, (r, tt)))))), legal_of y (b, ((λ n. n pair), (l, (t, (u, (v, tt)))))))
    where
      legal_of : (ds : List ℤ) → Clear (check_rules w (largest w) o s ds) → Legal w (largest w) o s ds
      legal_of ds c =
          check_yes w (largest w) o s ds (record { refusal = 0; place = 0; weight = weight ds; top = top ds })
          (record { first = first_none (check_rules w (largest w) o s ds) c; weight_is = refl; top_is = refl }) refl

  pub lighter_accepts : Legal w (largest w) o s x → Legal w (largest w) o s y → a.refusal ≡ 0
  lighter_accepts X Y =
      let (b, (_, (l, (p, (q, (r, _)))))) = legal_clear w (largest w) o s x X in
      let (_, (_, (_, (t, (u, (v, _)))))) = legal_clear w (largest w) o s y Y in
      (first_only (lighter_rules w o s x y) K.first (first_none (lighter_rules w o s x y) (b, (l, (p, (q, (r, (t, (u, (v, tt)))))))))).0

-- ---- a string cut above its highest nonzero place
pub record Cut (ds : List ℤ) : Type 0 where
  pub weight_is : weight (take (top ds) ds) ≡ weight ds
  pub worth_is : worth (take (top ds) ds) ≡ worth ds
  pub top_is : top (take (top ds) ds) ≡ top ds

-- a digit that is not counted is 0
zero_of : (d : ℤ) → nonzero d ≡ 0 → d ≡ pos 0
unfolding nonzero
zero_of (pos zero) e = refl
zero_of (pos (suc n)) e = absurd (omega arith)
zero_of (negsuc n) e = absurd (omega arith)

-- it weighs and is worth the same, and its top is the whole of it
pub cut : (ds : List ℤ) → Cut ds
unfolding worth weight top nonzero
cut [] = record { weight_is = refl; worth_is = refl; top_is = refl }
cut (d ∷ ds) = go (top ds) refl (cut ds)
  where
    made : (k : ℕ) → top (d ∷ ds) ≡ k → weight (take k (d ∷ ds)) ≡ weight (d ∷ ds) → worth (take k (d ∷ ds)) ≡ worth (d ∷ ds) → top (take k (d ∷ ds)) ≡ k → Cut (d ∷ ds)
    made k e a b c = record { weight_is = ap (λ i. weight (take i (d ∷ ds))) e ∙ a; worth_is = ap (λ i. worth (take i (d ∷ ds))) e ∙ b; top_is = ap (λ i. top (take i (d ∷ ds))) e ∙ c ∙ sym e }

    -- a lowest place over none: the digit 0 is cut off, and another stands alone
    alone : (h : ℕ) → nonzero d ≡ h → top ds ≡ 0 → weight ds ≡ 0 → worth ds ≡ pos 0 → Cut (d ∷ ds)
    alone zero f e a b = made 0 (over_none (nonzero d) (top ds) e ∙ f) (omega (arith, f, a)) (sym (ap (λ z. d +ℤ pos 2 *ℤ z) b ∙ ap (λ z. z +ℤ pos 0) (zero_of d f))) refl
    alone (suc h) f e a b =
        let one : nonzero d ≡ 1 = omega (arith, f, nonzero_le d) in
        made 1 (over_none (nonzero d) (top ds) e ∙ one) (omega (arith, a)) (ap (λ z. d +ℤ pos 2 *ℤ z) (sym b)) one

    go : (t : ℕ) → top ds ≡ t → Cut ds → Cut (d ∷ ds)
    go zero e c = alone (nonzero d) refl e (sym (ap (λ i. weight (take i ds)) (sym e) ∙ c.weight_is)) (sym (ap (λ i. worth (take i ds)) (sym e) ∙ c.worth_is))
    go (suc t) e c =
        made (suc (suc t)) (ap (over (nonzero d)) e) (ap (λ k. nonzero d + k) (ap (λ i. weight (take i ds)) (sym e) ∙ c.weight_is))
        (ap (λ z. d +ℤ pos 2 *ℤ z) (ap (λ i. worth (take i ds)) (sym e) ∙ c.worth_is))
        (ap (over (nonzero d)) (ap (λ i. top (take i ds)) (sym e) ∙ c.top_is ∙ e))

-- ---- the part
module _ (w : ℕ) (o : Order) (s : List ℕ) (x y part : List ℤ) (L : Lighter w o s x y part) where
  -- a refusal gives an empty part of the first
  pub lighter_empty : L.picked.refusal ≢ 0 → (part ≡ []) × (L.picked.which ≡ 0)
  lighter_empty n =
      let p = L.picked in
      let k = L.pick.places_are ∙ granted_none p.refusal (top (one_of (lighter_of x y) x y)) n in
      (L.part_is ∙ ap (λ i. take i (one_of p.which x y)) k, L.pick.which_is ∙ granted_none p.refusal (lighter_of x y) n)

  module _ (z : L.picked.refusal ≡ 0) where
    abbrev string : List ℤ
    string = one_of (lighter_of x y) x y

    part_cut : part ≡ take (top string) string
    part_cut =
        let p = L.picked in
        let i = L.pick.which_is ∙ granted_all p.refusal (lighter_of x y) z in
        let k = L.pick.places_are ∙ granted_all p.refusal (top string) z in
        L.part_is ∙ ap (λ n. take n (one_of p.which x y)) k ∙ ap (λ j. take (top string) (one_of j x y)) i

    -- it is worth the scalar
    pub lighter_worth : worth part ≡ pos (number o s)
    lighter_worth = ap worth part_cut ∙ (cut string).worth_is ∙ one_worth (lighter_of x y)
      where
        one_worth : (i : ℕ) → worth (one_of i x y) ≡ pos (number o s)
        one_worth zero = (lighter_legal w o s x y L.picked L.pick z).0.worth_is
        one_worth (suc i) = (lighter_legal w o s x y L.picked L.pick z).1.worth_is

    -- it weighs no more than either
    pub lighter_weighs : (weight part ≤ weight x) × (weight part ≤ weight y)
    lighter_weighs = go (dec_le (weight x) (weight y))
      where
        is : weight part ≡ weight string
        is = ap weight part_cut ∙ (cut string).weight_is

        go : Dec (weight x ≤ weight y) → (weight part ≤ weight x) × (weight part ≤ weight y)
        go (yes h) = let e = is ∙ ap (λ i. weight (one_of i x y)) (first_lighter x y h) in (omega arith, omega arith)
        go (no n) = let e = is ∙ ap (λ i. weight (one_of i x y)) (second_lighter x y (omega arith)) in (omega arith, omega arith)

    -- and its highest place is not 0
    pub lighter_cut : top part ≡ length part
    lighter_cut = ap top part_cut ∙ (cut string).top_is ∙ sym (ap length part_cut ∙ length-take-le (top string) string (top_le string))

-- ---- the promise can be kept, since those of the checks can
pub pick_kept_by : (w : ℕ) (o : Order) (s : List ℕ) (x y : List ℤ) → (a : Picked) × Pick w o s x y a
pick_kept_by w o s x y =
    let (one, c) = check_kept_by w (largest w) o s x in
    let (other, d) = check_kept_by w (largest w) o s y in
    go one other (whole x one c) (whole y other d) (ℕ_discrete one.refusal 0) (ℕ_discrete other.refusal 0) (dec_le one.weight other.weight)
  where
    whole : (ds : List ℤ) (v : Tally) → Check (check_rules w (largest w) o s ds) ds v → CheckWhole w o s ds v
    whole ds v c = (check_whole w (largest w) (λ _ _. refl) o s ds v).0 c

    go : (one other : Tally) → CheckWhole w o s x one → CheckWhole w o s y other → Dec (one.refusal ≡ 0) → Dec (other.refusal ≡ 0) → Dec (one.weight ≤ other.weight) → (a : Picked) × Pick w o s x y a
    go one other c d (no n) _ _ = (_, first_refused w o s x y c n)
    go one other c d (yes z) (no n) _ = (_, second_refused w o s x y c z d n)
    go one other c d (yes z) (yes v) (yes h) = (_, picks_first w o s x y c z d v h)
    go one other c d (yes z) (yes v) (no h) = (_, picks_second w o s x y c z d v (omega arith))

-- ---- ruled out: a part for every input, which keeps the promise
pub record Picker : Type 0 where
  pub call : (w : ℕ) (o : Order) (s : List ℕ) (x y : List ℤ) → List ℤ
  pub keeps : (w : ℕ) (o : Order) (s : List ℕ) (x y : List ℤ) → Lighter w o s x y (call w o s x y)

pub picker : Picker
picker =
    record {
      call = λ w o s x y. let (a, _) = pick_kept_by w o s x y in take a.places (one_of a.which x y);
      keeps = λ w o s x y. record { picked = (pick_kept_by w o s x y).0; pick = (pick_kept_by w o s x y).1; part_is = refl };
    }

module _ (c : Picker) where
  -- 3 as 1 1 and as 1 0 -1, and with a place that is 0 above
  short : List ℤ
  short = pos 1 ∷ pos 1 ∷ []

  spread : List ℤ
  spread = negsuc 0 ∷ pos 0 ∷ pos 1 ∷ []

  long : List ℤ
  long = pos 1 ∷ pos 1 ∷ pos 0 ∷ []

  three : List ℕ
  three = 3 ∷ []

  legal : (ds : List ℤ) → length ds ≤ 529 → T (all_in 1 ds) → worth ds ≡ pos 3 → Legal 2 1 highest_first three ds
  unfolding three number
  legal ds l t e = record { pair = whole_pair {w = 2} (lit≤ tt, lit≤ tt); few = lit≤ tt; short = l; digits = t; worth_is = e }

  legal_short : Legal 2 1 highest_first three short
  unfolding short worth all_in in_set
  legal_short = legal short (lit≤ tt) tt refl

  legal_spread : Legal 2 1 highest_first three spread
  unfolding spread worth all_in in_set
  legal_spread = legal spread (lit≤ tt) tt refl

  legal_long : Legal 2 1 highest_first three long
  unfolding long worth all_in in_set
  legal_long = legal long (lit≤ tt) tt refl

  -- both are accepted, and the first weighs no more: its part
  gives : (x y : List ℤ) → Legal 2 1 highest_first three x → Legal 2 1 highest_first three y → weight x ≤ weight y → length (c.call 2 highest_first three x y) ≡ top x
  gives x y X Y h =
      let L = c.keeps 2 highest_first three x y in
      let z = lighter_accepts 2 highest_first three x y L.picked L.pick X Y in
      let k = first_lighter x y h in
      ap length (part_cut 2 highest_first three x y (c.call 2 highest_first three x y) L z) ∙ ap (λ i. length (take (top (one_of i x y)) (one_of i x y))) k ∙ length-take-le (top x) x (top_le x)

  -- the second on a tie
  pub lighter_not_second : ((w : ℕ) (o : Order) (s : List ℕ) (x y : List ℤ) → Legal w (largest w) o s x → Legal w (largest w) o s y → weight x ≡ weight y → c.call w o s x y ≡ take (top y) y) → ⊥
  unfolding short spread weight top nonzero
  lighter_not_second r =
      let e = ap length (r 2 highest_first three short spread legal_short legal_spread refl) in
      omega (arith, e, gives short spread legal_short legal_spread (lit≤ tt))

  -- a part that is not cut
  pub lighter_not_whole : ((w : ℕ) (o : Order) (s : List ℕ) (x y : List ℤ) → Legal w (largest w) o s x → Legal w (largest w) o s y → weight x ≤ weight y → c.call w o s x y ≡ x) → ⊥
  unfolding long weight top nonzero
  lighter_not_whole r =
      let e = ap length (r 2 highest_first three long long legal_long legal_long (lit≤ tt)) in
      omega (arith, e, gives long long legal_long legal_long (lit≤ tt))

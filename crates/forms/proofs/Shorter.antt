-- The shorter top, as other makers write it: where the top digit of a wNAF is 1 and the next lower nonzero digit d is negative and w places below it, 2 ^ w + d is
-- 2 ^ (w - 1) + (d + 2 ^ (w - 1)). With these two digits the string is of D_w, worth the number, as heavy, a place shorter, and has one pair of nonzeros fewer than w places apart.
-- Assumes nothing.
use mathlib.Core.Path.{◌≡◌, refl, sym, ap, ◌∙◌}
use mathlib.Core.Logic.{◌≢◌}
use mathlib.Core.List.{List, [], ◌∷◌}
use Prim.Native.Nat.{ℕ, zero, suc, ◌+◌, ◌*◌, ◌-◌, ◌^◌, ◌<◌, ◌≤◌}
use native.Mathlib.Omega.{arith}
use native.Mathlib.Decide.{ℕ_discrete, dec_lt}
use lib.Dec.{T}
use lib.Pow.{pow_mono}
use lib.IntN.{ℤ, pos, negsuc, nat_abs, ◌+ℤ◌, ◌*ℤ◌}
use lib.ListN.{length, get_or, set, length-set, get_or-eq_default}
use lib.Seq.{get_or-set_same, get_or-set_other}
use Rattle.laws.proofs.Integers.{parts, diffs, ring, abs_max, add_is, up, dn}
use Rattle.laws.proofs.Choices.{and_both}
use Rattle.laws.proofs.Powers.{pow_four, pow_pred}
use Rattle.meaning.specs.Digits.{largest, in_set, all_in, worth, nonzero, weight, top}
use Rattle.meaning.specs.Wnaf.{Wnaf}
use Rattle.meaning.specs.Checking.{Crowded}
use Rattle.forms.proofs.Naf.{Digit}
use Rattle.forms.proofs.DigitSets.{digit_of, digit_in, digit_some}
use Rattle.forms.proofs.Strings.{nonzero_one, nonzero_none, over_none, over_some, all_in_is}

-- ---- the statement
-- the top digit of ds is 1, at place i + w, and the digit at place i is negative
pub record LongTop (w i : ℕ) (ds : List ℤ) : Type 0 where
  pub one : get_or ds (i + w) (pos 0) ≡ pos 1
  pub highest : (j : ℕ) → i + w < j → get_or ds j (pos 0) ≡ pos 0
  pub size : ℕ
  pub negative : get_or ds i (pos 0) ≡ negsuc size

-- es has 2 ^ (w - 1) more than ds at place i, 1 at place i + w - 1 and 0 at place i + w, and at every other place the digit that ds has there; how many zeros stand above is left open
pub record Lowered (w i : ℕ) (ds es : List ℤ) : Type 0 where
  pub more : get_or es i (pos 0) ≡ get_or ds i (pos 0) +ℤ pos (2 ^ (w - 1))
  pub one : get_or es (i + w - 1) (pos 0) ≡ pos 1
  pub gone : get_or es (i + w) (pos 0) ≡ pos 0
  pub same : (j : ℕ) → j ≢ i → j ≢ i + w - 1 → j ≢ i + w → get_or es j (pos 0) ≡ get_or ds j (pos 0)

-- then es is a string of D_w, worth N, as heavy as ds and a place shorter; two nonzeros are fewer than w places apart at the places i and i + w - 1, and nowhere else
pub record Shorter (w N i : ℕ) (ds es : List ℤ) : Type 0 where
  pub is_in_set : T (all_in (largest w) es)
  pub worth_is : worth es ≡ pos N
  pub weight_is : weight es ≡ weight ds
  pub top_was : top ds ≡ i + w + 1
  pub top_is : top es ≡ i + w
  pub there : Crowded w es i
  pub nowhere_else : (a b : ℕ) → a < b → b < a + w → get_or es a (pos 0) ≢ pos 0 → get_or es b (pos 0) ≢ pos 0 → (a ≡ i) × (b ≡ i + w - 1)

-- ---- strings by their digits
-- no digit
silent : (xs : List ℤ) → ((j : ℕ) → get_or xs j (pos 0) ≡ pos 0) → (worth xs ≡ pos 0) × (weight xs ≡ 0) × (top xs ≡ 0)
unfolding worth weight top
silent [] f = (refl, refl, refl)
silent (x ∷ xs) f =
    let (e, k, t) = silent xs (λ j. f (suc j)) in
    let z : x ≡ pos 0 = f 0 in
    (ap (λ a. a +ℤ pos 2 *ℤ worth xs) z ∙ ap (λ a. pos 0 +ℤ pos 2 *ℤ a) e, omega (arith, nonzero_none z), over_none (nonzero x) (top xs) t ∙ nonzero_none z)

-- one, which is 1
single : (k : ℕ) (xs : List ℤ) → get_or xs k (pos 0) ≡ pos 1 → ((j : ℕ) → j ≢ k → get_or xs j (pos 0) ≡ pos 0) → (worth xs ≡ pos (2 ^ k)) × (weight xs ≡ 1)
unfolding worth weight nonzero
single k [] e f = absurd (omega (arith, ap nat_abs e))
single zero (x ∷ xs) e f =
    let (v, k, _) = silent xs (λ j. f (suc j) (λ h. omega arith)) in
    (ap (λ a. a +ℤ pos 2 *ℤ worth xs) e ∙ ap (λ a. pos 1 +ℤ pos 2 *ℤ a) v, omega (arith, ap nonzero e))
single (suc k) (x ∷ xs) e f =
    let (v, h) = single k xs e (λ j n. f (suc j) (λ q. n (omega arith))) in
    let z : x ≡ pos 0 = f 0 (λ h. omega arith) in
    (ap (λ a. a +ℤ pos 2 *ℤ worth xs) z ∙ ap (λ a. pos 0 +ℤ pos 2 *ℤ a) v ∙ ap pos (omega arith), omega (arith, nonzero_none z))

-- the highest
top_at : (t : ℕ) (xs : List ℤ) → get_or xs t (pos 0) ≢ pos 0 → ((j : ℕ) → t < j → get_or xs j (pos 0) ≡ pos 0) → top xs ≡ suc t
unfolding top
top_at t [] n f = absurd (n refl)
top_at zero (x ∷ xs) n f = let (_, _, e) = silent xs (λ j. f (suc j) (omega arith)) in over_none (nonzero x) (top xs) e ∙ nonzero_one x n
top_at (suc t) (x ∷ xs) n f =
    let e = top_at t xs n (λ j l. f (suc j) (omega arith)) in
    over_some (nonzero x) (top xs) (omega arith) ∙ ap suc e

-- each is in a set that all are in
in_any : (m : ℕ) (ds : List ℤ) → T (all_in m ds) → (j : ℕ) → T (in_set m (get_or ds j (pos 0)))
unfolding all_in in_set
in_any m [] t j = tt
in_any m (d ∷ ds) t zero = (and_both (in_set m d) (all_in m ds) t).0
in_any m (d ∷ ds) t (suc j) = in_any m ds (and_both (in_set m d) (all_in m ds) t).1 j

-- ---- worth and weight
-- two strings, alike below place i: at place i the second has 2 ^ b more, and above it the first has a 1 at place p alone, the second at place q
record Alike (b i p q : ℕ) (ds es : List ℤ) : Type 0 where
  low : q ≡ b + i
  high : p ≡ suc q
  one : get_or ds p (pos 0) ≡ pos 1
  one' : get_or es q (pos 0) ≡ pos 1
  alone : (j : ℕ) → i < j → j ≢ p → get_or ds j (pos 0) ≡ pos 0
  alone' : (j : ℕ) → i < j → j ≢ q → get_or es j (pos 0) ≡ pos 0
  more : get_or es i (pos 0) ≡ get_or ds i (pos 0) +ℤ pos (2 ^ b)
  below : (j : ℕ) → j < i → get_or es j (pos 0) ≡ get_or ds j (pos 0)

-- are worth the same, and weigh the same but for place i
abbrev Balanced : ℕ → List ℤ → List ℤ → Type 0
Balanced i ds es = (worth es ≡ worth ds) × (weight es + nonzero (get_or ds i (pos 0)) ≡ weight ds + nonzero (get_or es i (pos 0)))

alike_tail : {b i p q : ℕ} {x y : ℤ} {xs ys : List ℤ} → Alike b (suc i) (suc p) (suc q) (x ∷ xs) (y ∷ ys) → Alike b i p q xs ys
alike_tail A =
    record {
      low = omega (arith, A.low);
      high = omega (arith, A.high);
      one = A.one;
      one' = A.one';
      alone = λ j l n. A.alone (suc j) (omega arith) (λ e. n (omega arith));
      alone' = λ j l n. A.alone' (suc j) (omega arith) (λ e. n (omega arith));
      more = A.more;
      below = λ j l. A.below (suc j) (omega arith);
    }

balance : (b i p q : ℕ) → 0 < b → (ds es : List ℤ) → Alike b i p q ds es → Balanced i ds es
unfolding worth weight
balance b i p q h [] es A = absurd (omega (arith, ap nat_abs A.one))
balance b i p q h (x ∷ xs) [] A = absurd (omega (arith, ap nat_abs A.one'))
balance b i zero q h (x ∷ xs) (y ∷ ys) A = absurd (omega (arith, A.high))
balance b i (suc p) zero h (x ∷ xs) (y ∷ ys) A = absurd (omega (arith, A.low))
balance b zero (suc p) (suc q) h (x ∷ xs) (y ∷ ys) A =
    let (v, k) = single p xs A.one (λ j n. A.alone (suc j) (omega arith) (λ e. n (omega arith))) in
    let (v', k') = single q ys A.one' (λ j n. A.alone' (suc j) (omega arith) (λ e. n (omega arith))) in
    (ap (λ a. a +ℤ pos 2 *ℤ worth ys) A.more ∙ ap (λ a. (x +ℤ pos (2 ^ b)) +ℤ pos 2 *ℤ a) v' ∙ law p q (omega (arith, A.low)) (omega (arith, A.high)) ∙ ap (λ a. x +ℤ pos 2 *ℤ a) (sym v), omega arith)
  where
    law : (p q : ℕ) → b ≡ suc q → p ≡ suc q → (x +ℤ pos (2 ^ b)) +ℤ pos 2 *ℤ pos (2 ^ q) ≡ x +ℤ pos 2 *ℤ pos (2 ^ p)
    law p q e f = rw (e, f, parts x) (simp diffs (omega ring))
balance b (suc i) (suc p) (suc q) h (x ∷ xs) (y ∷ ys) A =
    let (v, k) = balance b i p q h xs ys (alike_tail A) in
    let e : y ≡ x = A.below 0 (omega arith) in
    (ap (λ a. a +ℤ pos 2 *ℤ worth ys) e ∙ ap (λ a. x +ℤ pos 2 *ℤ a) v, omega (arith, ap nonzero e))

-- ---- a negative digit of D_w and 2 ^ (w - 1) are one, above nought
lifted : (w Q : ℕ) → 2 ^ w ≡ 4 * Q → (k : ℕ) (d e h : ℤ) → d ≡ negsuc k → d ≡ pos 2 *ℤ h +ℤ pos 1 → 2 * nat_abs d < 2 ^ w → e ≡ d +ℤ pos (2 * Q) → Digit w e
unfolding up dn
lifted w Q four k d e h n o s q =
    record {
      half = h +ℤ pos Q;
      odd = q ∙ ap (λ t. t +ℤ pos (2 * Q)) o ∙ law;
      small = omega (arith, abs_max e {B = 2 * Q - 1} (omega (arith, ap up q, ap dn q, add_is d (pos (2 * Q)), ap up n, ap dn n, ap nat_abs n)));
    }
  where
    law : (pos 2 *ℤ h +ℤ pos 1) +ℤ pos (2 * Q) ≡ pos 2 *ℤ (h +ℤ pos Q) +ℤ pos 1
    law = rw (parts h) (simp diffs (omega ring))

-- ---- the theorem
module _ {w N n i : ℕ} {ds es : List ℤ} (two : 2 ≤ w) (f : Wnaf w N n ds) (L : LongTop w i ds) (S : Lowered w i ds es) where
  some : get_or ds i (pos 0) ≢ pos 0
  some e = omega (arith, ap nat_abs (sym L.negative ∙ e))

  -- the digit at place i of es is one of D_w
  raised : Digit w (get_or es i (pos 0))
  raised =
      let (Q, four) = pow_four w two in
      let D = digit_of w (omega arith) (get_or ds i (pos 0)) (in_any (largest w) ds f.is_in_set i) some in
      let P : 2 ^ (w - 1) ≡ 2 * Q = omega (arith, pow_pred w (omega arith)) in
      lifted w Q four L.size _ _ D.half L.negative D.odd D.small (S.more ∙ ap (λ t. get_or ds i (pos 0) +ℤ pos t) P)

  some' : get_or es i (pos 0) ≢ pos 0
  some' = digit_some raised

  -- above place i there is no digit but the 1
  alone : (j : ℕ) → i < j → j ≢ i + w → get_or ds j (pos 0) ≡ pos 0
  alone j l m = go (dec_lt j (i + w))
    where
      go : Dec (j < i + w) → get_or ds j (pos 0) ≡ pos 0
      go (yes k) = f.apart.one_of i j l k some
      go (no k) = L.highest j (omega arith)

  alone' : (j : ℕ) → i < j → j ≢ i + w - 1 → get_or es j (pos 0) ≡ pos 0
  alone' j l m = go (ℕ_discrete j (i + w))
    where
      go : Dec (j ≡ i + w) → get_or es j (pos 0) ≡ pos 0
      go (yes e) = ap (λ t. get_or es t (pos 0)) e ∙ S.gone
      go (no k) = S.same j (λ e. omega arith) m k ∙ alone j l k

  -- below it the digits are those of ds
  below : (j : ℕ) → j < i → get_or es j (pos 0) ≡ get_or ds j (pos 0)
  below j l = S.same j (λ e. omega arith) (λ e. omega arith) (λ e. omega arith)

  both : Balanced i ds es
  both =
      balance (w - 1) i (i + w) (i + w - 1) (omega arith) ds es
      (record { low = omega arith; high = omega arith; one = L.one; one' = S.one; alone = alone; alone' = alone'; more = S.more; below = below })

  one_there : (v : ℤ) → v ≡ pos 1 → v ≢ pos 0
  one_there v e z = omega (arith, ap nat_abs (sym e ∙ z))

  -- every digit is in the set
  within : (j : ℕ) → T (in_set (largest w) (get_or es j (pos 0)))
  unfolding in_set
  within j = go (ℕ_discrete j i) (ℕ_discrete j (i + w - 1)) (dec_lt j i)
    where
      go : Dec (j ≡ i) → Dec (j ≡ i + w - 1) → Dec (j < i) → T (in_set (largest w) (get_or es j (pos 0)))
      go (yes e) b c = rw e (digit_in w (omega arith) _ raised)
      go (no a) (yes e) c = rw (e, S.one) (digit_in w (omega arith) (pos 1) (record { half = pos 0; odd = refl; small = omega (arith, pow_mono {i = 2} {j = w} two) }))
      go (no a) (no b) (yes l) = rw (below j l) (in_any (largest w) ds f.is_in_set j)
      go (no a) (no b) (no c) = rw (alone' j (omega arith) b) tt

  -- two nonzeros near each other
  near : (a b : ℕ) → a < b → b < a + w → get_or es a (pos 0) ≢ pos 0 → get_or es b (pos 0) ≢ pos 0 → (a ≡ i) × (b ≡ i + w - 1)
  near a b l m x y = go (dec_lt i a) (dec_lt i b) (ℕ_discrete a (i + w - 1)) (ℕ_discrete b (i + w - 1)) (ℕ_discrete b i)
    where
      go : Dec (i < a) → Dec (i < b) → Dec (a ≡ i + w - 1) → Dec (b ≡ i + w - 1) → Dec (b ≡ i) → (a ≡ i) × (b ≡ i + w - 1)
      go (yes p) q (yes r) s t = absurd (y (alone' b (omega arith) (λ e. omega arith)))
      go (yes p) q (no r) s t = absurd (x (alone' a p r))
      go (no p) (yes q) r (yes s) t = (omega arith, s)
      go (no p) (yes q) r (no s) t = absurd (y (alone' b q s))
      go (no p) (no q) r s (yes t) = absurd (some (ap (λ k. get_or ds k (pos 0)) (sym t) ∙ f.apart.one_of a b l m (λ z. x (below a (omega arith) ∙ z))))
      go (no p) (no q) r s (no t) = absurd (y (below b (omega arith) ∙ f.apart.one_of a b l m (λ z. x (below a (omega arith) ∙ z))))

  pub shorter_top : Shorter w N i ds es
  shorter_top =
      let (v, k) = both in
      record {
        is_in_set = all_in_is (largest w) es (λ j l. within j);
        worth_is = v ∙ f.worth_is;
        weight_is = omega (arith, nonzero_one _ some, nonzero_one _ some');
        top_was = top_at (i + w) ds (one_there _ L.one) L.highest ∙ omega arith;
        top_is = top_at (i + w - 1) es (one_there _ S.one) (λ j l. alone' j (omega arith) (λ e. omega arith)) ∙ omega arith;
        there = record { other = i + w - 1; above = omega arith; near = omega arith; here = some'; there = one_there _ S.one };
        nowhere_else = near;
      }

-- ---- there is such a string, of as many places
module _ {w i : ℕ} {ds : List ℤ} (two : 2 ≤ w) (L : LongTop w i ds) where
  inside : i + w < length ds
  inside = go (dec_lt (i + w) (length ds))
    where
      go : Dec (i + w < length ds) → i + w < length ds
      go (yes l) = l
      go (no l) = absurd (omega (arith, ap nat_abs (sym L.one ∙ get_or-eq_default ds (pos 0) {n = i + w} (omega arith))))

  abbrev cleared : List ℤ
  cleared = set ds (i + w) (pos 0)

  abbrev led : List ℤ
  led = set cleared (i + w - 1) (pos 1)

  abbrev pub lowered : List ℤ
  lowered = set led i (get_or ds i (pos 0) +ℤ pos (2 ^ (w - 1)))

  sized : (length cleared ≡ length ds) × (length led ≡ length ds)
  sized = (length-set ds (i + w) (pos 0), length-set cleared (i + w - 1) (pos 1) ∙ length-set ds (i + w) (pos 0))

  pub lowered_length : length lowered ≡ length ds
  lowered_length = length-set led i _ ∙ sized.1

  pub lowered_is : Lowered w i ds lowered
  lowered_is =
      record {
        more = get_or-set_same led i _ (pos 0) (omega (arith, inside, sized));
        one = get_or-set_other led i (i + w - 1) _ (pos 0) (λ e. omega arith) ∙ get_or-set_same cleared (i + w - 1) (pos 1) (pos 0) (omega (arith, inside, sized));
        gone = at (i + w) (λ e. omega arith) (λ e. omega arith) ∙ get_or-set_same ds (i + w) (pos 0) (pos 0) inside;
        same = λ j a b c. at j a b ∙ get_or-set_other ds (i + w) j (pos 0) (pos 0) c;
      }
    where
      at : (j : ℕ) → j ≢ i → j ≢ i + w - 1 → get_or lowered j (pos 0) ≡ get_or cleared j (pos 0)
      at j a b = get_or-set_other led i j _ (pos 0) a ∙ get_or-set_other cleared (i + w - 1) j (pos 1) (pos 0) b

-- The tape of a string: what its words count, what it is worth, and that its words are good. Over any set of digits whose entries fit a word.
-- Assumes nothing.
use mathlib.Core.Path.{◌≡◌, refl, sym, ap, ◌∙◌, subst}
use mathlib.Core.Logic.{◌≢◌, ⊎_elim}
use mathlib.Core.Bool.{◌&&◌}
use mathlib.Core.List.{List, [], ◌∷◌, ◌++◌}
use Prim.Native.Nat.{ℕ, zero, suc, ◌+◌, ◌-◌, ◌%◌, ◌<◌, ◌≤◌}
use native.Mathlib.Omega.{arith}
use lib.Dec.{T, eqb, leb, eqb→eq, leb→le}
use lib.IntN.{ℤ, ℤ_discrete, pos, negsuc, nat_abs, neg_ℤ, ◌+ℤ◌, ◌*ℤ◌, +ℤ_idr, +ℤ_comm}
use lib.ListN.{length, get_or}
use Rattle.laws.proofs.Choices.{and_both, or_either}
use Rattle.meaning.specs.Digits.{in_set, entries, all_in, worth, nonzero, weight, top}
use Rattle.meaning.specs.Words.{code_of, entry_of, Sign, plus, minus, Step, double, load, add, step_of, signed, word_of}
use Rattle.meaning.specs.Walks.{taken, walked, wholes, multiple, odds, tape_value, doublings, additions, Good}
use Rattle.meaning.specs.Taping.{entry, sign_of, moves, down, tape_of}
use Rattle.forms.proofs.Strings.{nonzero_le, nonzero_one, nonzero_none, over_none, over_some}
use Rattle.walk.proofs.Words.{signed_le, word_back, Counts, counts_load, counts_add}
use Rattle.walk.proofs.Walk.{walked_append}
use Rattle.walk.proofs.Lengths.{Shape, none, some, shape}

-- ---- a digit's entry
-- a nonzero digit of the set of the largest digit m stands for an odd multiple, whose entry the set has, and so in twelve bits
record Odd (m : ℕ) (d : ℤ) : Type 0 where
  small : entry d < entries m
  low : entry d < 4096
  is : odds (sign_of d) (entry d) ≡ d

module _ (m : ℕ) (one : 1 ≤ m) (few : m < 4096) where
  odd_digit : (d : ℤ) → T (in_set m d) → d ≢ pos 0 → Odd m d
  unfolding in_set
  odd_digit d t n = record { small = omega (arith, odd, most); low = omega (arith, odd, most); is = told d (omega (arith, odd)) }
    where
      both : T (eqb (nat_abs d % 2) 1 && leb (nat_abs d) m)
      both = ⊎_elim (λ z. absurd (n (nought d (eqb→eq (nat_abs d) 0 z)))) (λ z. z) (or_either (eqb (nat_abs d) 0) (eqb (nat_abs d % 2) 1 && leb (nat_abs d) m) t)
        where
          nought : (d : ℤ) → nat_abs d ≡ 0 → d ≡ pos 0
          nought (pos k) e = ap pos e
          nought (negsuc k) e = absurd (omega arith)

      odd : nat_abs d % 2 ≡ 1
      odd = eqb→eq (nat_abs d % 2) 1 (and_both (eqb (nat_abs d % 2) 1) (leb (nat_abs d) m) both).0

      most : nat_abs d ≤ m
      most = leb→le (nat_abs d) m (and_both (eqb (nat_abs d % 2) 1) (leb (nat_abs d) m) both).1

      told : (d : ℤ) → multiple (entry d) ≡ nat_abs d → odds (sign_of d) (entry d) ≡ d
      told (pos k) e = ap pos e
      told (negsuc k) e = ap (λ j. neg_ℤ (pos j)) e

-- ---- a digit's words
-- one, if it is nonzero
pub moves_some : (move : Sign → ℕ → Step) (d : ℤ) → d ≢ pos 0 → moves move d ≡ word_of (move (sign_of d) (entry d)) ∷ []
unfolding moves
moves_some move (pos zero) n = absurd (n refl)
moves_some move (pos (suc k)) n = refl
moves_some move (negsuc k) n = refl

pub moves_none : (move : Sign → ℕ → Step) {d : ℤ} → d ≡ pos 0 → moves move d ≡ []
unfolding moves
moves_none move e = ap (moves move) e

-- what a word's code and entry are
code_load : (s : Sign) (e : ℕ) → e < 4096 → (code_of (word_of (load s e)) ≡ signed s 1) × (entry_of (word_of (load s e)) ≡ e)
code_load plus e h = (omega arith, omega arith)
code_load minus e h = (omega arith, omega arith)

code_add : (s : Sign) (e : ℕ) → e < 4096 → (code_of (word_of (add s e)) ≡ signed s 3) × (entry_of (word_of (add s e)) ≡ e)
code_add plus e h = (omega arith, omega arith)
code_add minus e h = (omega arith, omega arith)

-- ---- words one after the other
pub doublings_append : (xs ys : List ℕ) → doublings (xs ++ ys) ≡ doublings xs + doublings ys
unfolding doublings
doublings_append [] ys = omega arith
doublings_append (x ∷ xs) ys = omega (arith, doublings_append xs ys)

pub additions_append : (xs ys : List ℕ) → additions (xs ++ ys) ≡ additions xs + additions ys
unfolding additions
additions_append [] ys = omega arith
additions_append (x ∷ xs) ys = omega (arith, additions_append xs ys)

-- one word
counted : (x : ℕ) {a b : ℕ} → Counts x a b → (doublings (x ∷ []) ≡ a) × (additions (x ∷ []) ≡ b)
unfolding doublings additions
counted x c = (omega (arith, c.doubles), omega (arith, c.adds))

-- the words are good at their indexes, counted from i
unfoldable pub Goods : (count i : ℕ) → List ℕ → Type 0
Goods count i [] = Unit
Goods count i (x ∷ xs) = Good count i x × Goods count (suc i) xs

goods_append : (count i : ℕ) (xs ys : List ℕ) → Goods count i xs → Goods count (i + length xs) ys → Goods count i (xs ++ ys)
unfolding Goods
goods_append count i [] ys a b = subst (λ k. Goods count k ys) (omega arith) b
goods_append count i (x ∷ xs) ys (a, g) b = (a, goods_append count (suc i) xs ys g (subst (λ k. Goods count k ys) (omega arith) b))

goods_at : (count i : ℕ) (xs : List ℕ) → Goods count i xs → (k : ℕ) → k < length xs → Good count (i + k) (get_or xs k 0)
unfolding Goods
goods_at count i [] g k h = absurd (omega arith)
goods_at count i (x ∷ xs) (a, g) zero h = subst (λ j. Good count j x) (omega arith) a
goods_at count i (x ∷ xs) (a, g) (suc k) h = subst (λ j. Good count j (get_or xs k 0)) (omega arith) (goods_at count (suc i) xs g k (omega arith))

-- a double anywhere but first, a load first, an addition anywhere but first
module _ (count : ℕ) where
  good_double : (i : ℕ) → 0 < count → Good count (suc i) (word_of double)
  good_double i h =
      record {
        code = omega arith;
        entry = h;
        double = λ e. refl;
        first = λ e. absurd (omega arith);
        later = λ n l. omega arith;
      }

  good_load : (s : Sign) (e : ℕ) → e < 4096 → e < count → Good count 0 (word_of (load s e))
  good_load s e h l =
      let (c, k) = code_load s e h in
      let (a, b) = signed_le s 1 in
      record {
        code = omega arith;
        entry = omega arith;
        double = λ z. absurd (omega arith);
        first = λ z. (omega arith, omega arith);
        later = λ n z. absurd (n refl);
      }

  good_add : (i : ℕ) (s : Sign) (e : ℕ) → e < 4096 → e < count → Good count (suc i) (word_of (add s e))
  good_add i s e h l =
      let (c, k) = code_add s e h in
      let (a, b) = signed_le s 3 in
      record {
        code = omega arith;
        entry = omega arith;
        double = λ z. absurd (omega arith);
        first = λ z. absurd (omega arith);
        later = λ n z. omega arith;
      }

-- ---- the tape of a string over the set of the largest digit m
module _ (m : ℕ) (one : 1 ≤ m) (few : m < 4096) where
  abbrev count : ℕ
  count = entries m

  -- what a digit's words count, what they do to a value, and that they are good: as a load, and as an addition
  record Loads (d : ℤ) (ws : List ℕ) : Type 0 where
    doublings_are : doublings ws ≡ 0
    additions_are : additions ws ≡ 0
    value_is : tape_value ws ≡ d
    good : Goods count 0 ws

  record Adds (d : ℤ) (ws : List ℕ) : Type 0 where
    doublings_are : doublings ws ≡ 0
    additions_are : additions ws ≡ nonzero d
    value_is : (z : ℤ) → walked wholes odds z ws ≡ z +ℤ d
    good : (i : ℕ) → Goods count (suc i) ws

  loaded : (d : ℤ) → T (in_set m d) → Loads d (moves load d)
  unfolding doublings additions walked taken Goods
  loaded d t = go (ℤ_discrete d (pos 0))
    where
      go : Dec (d ≡ pos 0) → Loads d (moves load d)
      go (yes z) = rw (moves_none load z) (record { doublings_are = refl; additions_are = refl; value_is = sym z; good = tt })
      go (no n) =
          let o = odd_digit m one few d t n in
          let s = sign_of d in
          let e = entry d in
          let (a, b) = counted (word_of (load s e)) (counts_load (word_of (load s e)) s (code_load s e o.low).0) in
          rw (moves_some load d n)
          (record {
            doublings_are = a;
            additions_are = b;
            value_is = ap (taken wholes odds (pos 0)) (word_back (load s e) o.low) ∙ o.is;
            good = (good_load count s e o.low o.small, tt);
          })

  added : (d : ℤ) → T (in_set m d) → Adds d (moves add d)
  unfolding doublings additions walked taken Goods
  added d t = go (ℤ_discrete d (pos 0))
    where
      go : Dec (d ≡ pos 0) → Adds d (moves add d)
      go (yes z) =
          rw (moves_none add z)
          (record { doublings_are = refl; additions_are = sym (nonzero_none z); value_is = λ y. sym (+ℤ_idr y) ∙ ap (λ x. y +ℤ x) (sym z); good = λ i. tt })
      go (no n) =
          let o = odd_digit m one few d t n in
          let s = sign_of d in
          let e = entry d in
          let (a, b) = counted (word_of (add s e)) (counts_add (word_of (add s e)) s (code_add s e o.low).0) in
          rw (moves_some add d n)
          (record {
            doublings_are = a;
            additions_are = b ∙ sym (nonzero_one d n);
            value_is = λ y. ap (taken wholes odds y) (word_back (add s e) o.low) ∙ ap (λ x. y +ℤ x) o.is;
            good = λ i. (good_add count i s e o.low o.small, tt);
          })

  -- the whole tape
  pub record Faithful (ds : List ℤ) : Type 0 where
    pub doublings_are : doublings (tape_of ds) ≡ top ds - 1
    pub additions_are : additions (tape_of ds) ≡ weight ds - 1
    pub value_is : tape_value (tape_of ds) ≡ worth ds
    pub good : Goods count 0 (tape_of ds)

  -- by the places from the top down
  pub faithful : (ds : List ℤ) → T (all_in m ds) → Faithful ds
  unfolding all_in tape_of down top weight worth doublings additions walked taken step_of Goods
  faithful [] t = record { doublings_are = refl; additions_are = refl; value_is = refl; good = tt }
  faithful (d ∷ ds) t = go (shape ds) (loaded d b.0) (added d b.0) (faithful ds b.1)
    where
      b : T (in_set m d) × T (all_in m ds)
      b = and_both (in_set m d) (all_in m ds) t

      go : Shape ds → Loads d (moves load d) → Adds d (moves add d) → Faithful ds → Faithful (d ∷ ds)
      go (none a n e) p q h =
          let zero : worth ds ≡ pos 0 = sym h.value_is ∙ ap tape_value e in
          record {
            doublings_are = ap (λ xs. doublings (down xs d)) e ∙ p.doublings_are ∙ omega (arith, over_none (nonzero d) (top ds) n, nonzero_le d);
            additions_are = ap (λ xs. additions (down xs d)) e ∙ p.additions_are ∙ omega (arith, nonzero_le d);
            value_is = ap (λ xs. tape_value (down xs d)) e ∙ p.value_is ∙ sym (+ℤ_idr d) ∙ ap (λ z. d +ℤ pos 2 *ℤ z) (sym zero);
            good = subst (λ xs. Goods count 0 (down xs d)) (sym e) p.good;
          }
      go (some x xs a n e _) p q h =
          let ys = word_of double ∷ moves add d in
          let value : tape_value (x ∷ xs) ≡ worth ds = ap tape_value (sym e) ∙ h.value_is in
          let k : suc (length xs) ≡ 0 + suc (length xs) = omega arith in
          record {
            doublings_are =
                ap (λ zs. doublings (down zs d)) e ∙ doublings_append (x ∷ xs) ys
                ∙ omega (arith, ap doublings e, h.doublings_are, q.doublings_are, over_some (nonzero d) (top ds) n);
            additions_are =
                ap (λ zs. additions (down zs d)) e ∙ additions_append (x ∷ xs) ys
                ∙ omega (arith, ap additions e, h.additions_are, q.additions_are);
            value_is =
                ap (λ zs. tape_value (down zs d)) e ∙ walked_append wholes odds (pos 0) (x ∷ xs) ys ∙ q.value_is (pos 2 *ℤ tape_value (x ∷ xs))
                ∙ ap (λ z. pos 2 *ℤ z +ℤ d) value ∙ +ℤ_comm (pos 2 *ℤ worth ds) d;
            good =
                subst (λ zs. Goods count 0 (down zs d)) (sym e)
                (goods_append count 0 (x ∷ xs) ys (subst (Goods count 0) e h.good) (subst (λ j. Goods count j ys) k (good_double count (length xs) (omega arith), q.good (suc (length xs)))));
          }

  -- every word of it is good
  pub tape_good : (ds : List ℤ) → T (all_in m ds) → (i : ℕ) → i < length (tape_of ds) → Good count i (get_or (tape_of ds) i 0)
  tape_good ds t i h = subst (λ j. Good count j (get_or (tape_of ds) i 0)) (omega arith) (goods_at count 0 (tape_of ds) (faithful ds t).good i h)

-- A tape translated to the chip without subtraction: each word does there what its source does here, so that the walk is the same over any carrier, with as many words and the same
-- counts; good words are translated to good ones; and a walk over the second chip's stored entries is a residue. Assumes nothing.
use mathlib.Core.Path.{◌≡◌, refl, sym, ap, ◌∙◌, subst}
use mathlib.Core.Logic.{inl, inr}
use mathlib.Core.List.{List, [], ◌∷◌}
use Prim.Native.Nat.{ℕ, zero, suc, ◌+◌, ◌*◌, ◌-◌, ◌%◌, ◌<◌, ◌≤◌}
use native.Mathlib.Omega.{arith}
use lib.Dec.{ltb, lt→ltb, ltb→lt, not_T}
use lib.IntN.{ℤ, pos, neg_ℤ, ◌*ℤ◌}
use lib.ListN.{length, get_or, length-map}
use Rattle.laws.proofs.Choices.{choices, yes_is, no_is}
use Rattle.laws.proofs.Integers.{parts, diffs, ring}
use Rattle.laws.proofs.Residues.{residue}
use Rattle.meaning.specs.Words.{code_of, entry_of, plus, minus, Step, double, load, add, bad, step_of, word_of}
use Rattle.meaning.specs.Walks.{Carrier, Table, taken, walked, walk, wholes, multiple, odds, tape_value, doublings, additions, Good}
use Rattle.meaning.specs.Running.{Residue}
use Rattle.meaning.specs.SecondChip.{second_entry, second_odds, second_value, turned, translated, translation, SecondGood, second_multiple}
use Rattle.walk.specs.Steps.{Below, Coded, is_double, is_addition}
use Rattle.walk.specs.Residues.{residues, negatable}
use Rattle.walk.proofs.Words.{Says, step_says, step_below, word_back, Counts, counts_double, counts_load, counts_add}
use Rattle.walk.proofs.Walk.{Tables, Within, walk_maps}
use Rattle.walk.proofs.Residues.{residue_neg, residue_least, image, residue_maps, residue_tables}

-- ---- words
-- as many as the source has, each the translation of its own
pub translation_length : (count : ℕ) (ws : List ℕ) → length (translation count ws) ≡ length ws
translation_length count ws = length-map ws (translated count)

pub translation_at : (count : ℕ) (ws : List ℕ) (i : ℕ) → i < length ws → get_or (translation count ws) i 0 ≡ translated count (get_or ws i 0)
translation_at count [] i l = absurd (omega arith)
translation_at count (x ∷ ws) zero l = refl
translation_at count (x ∷ ws) (suc i) l = translation_at count ws i (omega arith)

-- every word of a tape is good
abbrev pub AllGood : (count : ℕ) → List ℕ → Type 0
AllGood count ws = (i : ℕ) → i < length ws → Good count i (get_or ws i 0)

-- where twelve bits hold twice the entries
module _ (count : ℕ) (few : 2 * count ≤ 4096) where
  -- ---- the walk
  -- a translated word says the step that is meant
  turned_coded : (t : Step) → Below count t → Coded (turned count t)
  turned_coded double l = tt
  turned_coded (load plus e) l = omega arith
  turned_coded (load minus e) l = omega arith
  turned_coded (add plus e) l = omega arith
  turned_coded (add minus e) l = omega arith
  turned_coded bad l = tt

  step_translated : (x : ℕ) → entry_of x < count → step_of (translated count x) ≡ turned count (step_of x)
  step_translated x l = word_back (turned count (step_of x)) (turned_coded (step_of x) (step_below count x l))

  -- where a table has the other's entries, and the negated ones `count` further on
  module _ {A : Type 0} (C : Carrier A) (t u : Table A) (low : (e : ℕ) → e < count → u plus e ≡ t plus e) (high : (e : ℕ) → u plus (e + count) ≡ t minus e) where
    taken_turned : (a : A) (x : Step) → Below count x → taken C u a (turned count x) ≡ taken C t a x
    unfolding taken
    taken_turned a double l = refl
    taken_turned a (load plus e) l = low e l
    taken_turned a (load minus e) l = high e
    taken_turned a (add plus e) l = ap (C.add a) (low e l)
    taken_turned a (add minus e) l = ap (C.add a) (high e)
    taken_turned a bad l = refl

    walked_translated : (a : A) (ws : List ℕ) → Within count ws → walked C u a (translation count ws) ≡ walked C t a ws
    unfolding walked
    walked_translated a [] l = refl
    walked_translated a (x ∷ ws) l =
        let h = l 0 (omega arith) in
        ap (λ s. walked C u (taken C u a s) (translation count ws)) (step_translated x h)
        ∙ ap (λ b. walked C u b (translation count ws)) (taken_turned a (step_of x) (step_below count x h))
        ∙ walked_translated (taken C t a (step_of x)) ws (λ i k. l (suc i) (omega arith))

  -- so the translation leaves the whole number that the tape leaves
  pub value_translated : (ws : List ℕ) → Within count ws → second_value count (translation count ws) ≡ tape_value ws
  value_translated ws l = walked_translated wholes odds (second_odds count) low high (pos 0) ws l
    where
      low : (e : ℕ) → e < count → second_entry count e ≡ pos (multiple e)
      low e h = yes_is (ltb e count) (pos (multiple e)) _ (lt→ltb e count h)

      back : (e : ℕ) → e + count - count ≡ e
      back e = omega arith

      high : (e : ℕ) → second_entry count (e + count) ≡ neg_ℤ (pos (multiple e))
      high e =
          no_is (ltb (e + count) count) (pos (multiple (e + count))) (neg_ℤ (pos (multiple (e + count - count)))) (not_T (ltb (e + count) count) (λ h. omega (arith, ltb→lt (e + count) count h)))
          ∙ ap (λ k. neg_ℤ (pos (multiple k))) (back e)

  -- ---- good words
  -- y counts as x does
  abbrev Alike : ℕ → ℕ → Type 0
  Alike x y = (is_double y ≡ is_double x) × (is_addition y ≡ is_addition x)

  -- a good word is translated to a good one of the chip with twice the entries, and counts as before
  abbrev Turned : (i x y : ℕ) → Type 0
  Turned i x y = SecondGood (2 * count) i y × Alike x y

  module _ (i x : ℕ) (g : Good count i x) where
    same : {y d k : ℕ} → SecondGood (2 * count) i y → Counts x d k → Counts y d k → Turned i x y
    same s c n = (s, (n.doubles ∙ sym c.doubles, n.adds ∙ sym c.adds))

    -- a load, whose code is 1, and an addition, whose code is 3
    good_load : (y : ℕ) → (1 ≤ code_of x) × (code_of x ≤ 2) → code_of y ≡ 1 → entry_of y < 2 * count → SecondGood (2 * count) i y
    good_load y k c e =
        record {
          good = record { code = omega arith; entry = e; double = λ z. absurd (omega arith); first = λ z. (omega arith, omega arith); later = λ n l. g.later n k };
          no_load_negated = λ z. omega arith;
          no_subtraction = λ z. omega arith;
        }

    good_add : (y : ℕ) → 3 ≤ code_of x → code_of y ≡ 3 → entry_of y < 2 * count → SecondGood (2 * count) i y
    good_add y k c e =
        record {
          good =
              record { code = omega arith; entry = e; double = λ z. absurd (omega arith); first = λ z. let l = g.first z in absurd (omega arith); later = λ n l. omega arith };
          no_load_negated = λ z. omega arith;
          no_subtraction = λ z. omega arith;
        }

    good_double : code_of x ≡ 0 → SecondGood (2 * count) i 0
    good_double c =
        record {
          good =
              record {
                code = omega arith;
                entry = omega (arith, g.entry);
                double = λ z. refl;
                first = λ z. let l = g.first z in absurd (omega arith);
                later = λ n l. absurd (omega arith);
              };
          no_load_negated = λ z. omega arith;
          no_subtraction = λ z. omega arith;
        }

    turned_good : (t : Step) → Says t (code_of x) (entry_of x) → Turned i x (word_of (turned count t))
    turned_good double (c, e) = same (good_double c) (counts_double x c) (counts_double 0 refl)
    turned_good (load plus e) (c, p) = let h = g.entry in same (good_load _ (omega arith) (omega arith) (omega arith)) (counts_load x plus c) (counts_load _ plus (omega arith))
    turned_good (load minus e) (c, p) = let h = g.entry in same (good_load _ (omega arith) (omega arith) (omega arith)) (counts_load x minus c) (counts_load _ plus (omega arith))
    turned_good (add plus e) (c, p) = let h = g.entry in same (good_add _ (omega arith) (omega arith) (omega arith)) (counts_add x plus c) (counts_add _ plus (omega arith))
    turned_good (add minus e) (c, p) = let h = g.entry in same (good_add _ (omega arith) (omega arith) (omega arith)) (counts_add x minus c) (counts_add _ plus (omega arith))
    turned_good bad (inl l) = absurd (omega (arith, g.code))
    turned_good bad (inr (c, e)) = absurd (omega (arith, g.double c))

    word_translated : Turned i x (translated count x)
    word_translated = turned_good (step_of x) (step_says x)

  -- all of them
  pub good_translated : (ws : List ℕ) → AllGood count ws → (i : ℕ) → i < length (translation count ws) → SecondGood (2 * count) i (get_or (translation count ws) i 0)
  good_translated ws g i l =
      let k : i < length ws = omega (arith, translation_length count ws) in
      subst (SecondGood (2 * count) i) (sym (translation_at count ws i k)) (word_translated i (get_or ws i 0) (g i k)).0

  -- and the tape counts as before
  counted : (ws : List ℕ) → ((i : ℕ) → i < length ws → Alike (get_or ws i 0) (translated count (get_or ws i 0))) → (doublings (translation count ws) ≡ doublings ws) × (additions (translation count ws) ≡ additions ws)
  unfolding doublings additions
  counted [] h = (refl, refl)
  counted (x ∷ ws) h =
      let (d, k) = h 0 (omega arith) in
      let (ds, ks) = counted ws (λ i l. h (suc i) (omega arith)) in
      (omega arith, omega arith)

  pub counts_translated : (ws : List ℕ) → AllGood count ws → (doublings (translation count ws) ≡ doublings ws) × (additions (translation count ws) ≡ additions ws)
  counts_translated ws g = counted ws (λ i l. (word_translated i (get_or ws i 0) (g i l)).1)

-- ---- the second chip's run over residues
module _ (count m g : ℕ) (some : 0 < m) where
  entry_is : (e : ℕ) → image m g some (second_entry count e) ≡ second_multiple count m g e
  entry_is e =
      choices (λ z x. image m g some z ≡ x) (ltb e count) (λ c. residue_tables m g some (suc e) plus e (omega arith))
      (λ c. residue_tables m g some (suc (e - count)) minus (e - count) (omega arith))

  second_tables : Tables (image m g some) (2 * count) (second_odds count) (negatable m (second_multiple count m g))
  second_tables plus e l = entry_is e
  second_tables minus e l =
      let z = second_entry count e in
      ap (residue m) (negate z (pos g)) ∙ residue_neg m some (z *ℤ pos g) ∙ ap (λ a. (m - a) % m) (entry_is e)
    where
      negate : (z b : ℤ) → neg_ℤ z *ℤ b ≡ neg_ℤ (z *ℤ b)
      negate z b = rw (parts z, parts b) (simp diffs (omega ring))

  -- the walk of any words whose entries are there is the least nonnegative residue of their value times the base
  pub walk_second_is : (ws : List ℕ) → Within (2 * count) ws → Residue m (second_value count ws *ℤ pos g) (walk (residues m) (negatable m (second_multiple count m g)) ws)
  walk_second_is ws l = residue_least m some (second_value count ws *ℤ pos g) (walk_maps (residue_maps m g some) (2 * count) second_tables ws l)

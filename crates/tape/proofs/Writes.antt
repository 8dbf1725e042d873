-- The words of a string as they are written, from its top down: what stands in the buffer at place i, and how one place more goes.
-- Assumes nothing.
use mathlib.Core.Path.{◌≡◌, refl, sym, ap, ◌∙◌, subst}
use mathlib.Core.List.{List, [], ◌∷◌, ◌++◌, append_assoc}
use Prim.Native.Nat.{ℕ, suc, ◌+◌, ◌-◌, ◌<◌, ◌≤◌}
use native.Mathlib.Numerals.{add-one}
use native.Mathlib.Omega.{arith}
use lib.IntN.{ℤ, ℤ_discrete, pos}
use lib.ListN.{length, get_or, take, drop, set, length-append, length-set}
use lib.Seq.{sets, sets-eq, drop-cons, drop-drop, take-set-le, take-suc-set, drop-set-lt}
use Rattle.meaning.specs.Digits.{nonzero, top}
use Rattle.meaning.specs.Words.{double, load, add, word_of}
use Rattle.meaning.specs.Taping.{moves, down, tape_of}
use Rattle.tape.specs.Places.{Lowered}
use Rattle.forms.proofs.Strings.{nonzero_one, nonzero_none}
use Rattle.walk.proofs.Tapes.{moves_none}
use Rattle.walk.proofs.Lengths.{length_moves, tape_drop, at_top, tape_topless}

-- ---- place 0
-- a 0 gives a double alone
pub lowest_zero : {d : ℤ} (at : ℕ) (words : List ℕ) {x : ℕ} → d ≡ pos 0 → x ≡ word_of double → set words at x ≡ sets words at (word_of double ∷ moves add d)
lowest_zero at words z e = ap (set words at) e ∙ ap (λ ys. sets words at (word_of double ∷ ys)) (sym (moves_none add z))

-- ---- a place above it: what is then in front of the next index, and behind it
module _ {d : ℤ} {at : ℕ} {words₀ : List ℕ} {next : ℕ} {words : List ℕ} (h : Lowered d at words₀ next words) (room : at + 1 < length words₀) where
  lowered_length : length words ≡ length words₀
  lowered_length = ap length h.words_are ∙ simp length-set

  lowered_front : take next words ≡ take at words₀ ++ (word_of double ∷ moves add d)
  lowered_front = by (ℤ_discrete d (pos 0))
    where
      front : take (at + 1) (set words₀ at (word_of double)) ≡ take at words₀ ++ (word_of double ∷ [])
      front = rw add-one (take-suc-set words₀ at (word_of double) (omega arith))

      by : Dec (d ≡ pos 0) → take next words ≡ take at words₀ ++ (word_of double ∷ moves add d)
      by (yes z) =
          let n : next ≡ at + 1 = omega (arith, h.next_is, nonzero_none z) in
          ap (λ k. take k words) n ∙ ap (take (at + 1)) h.words_are ∙ take-set-le (at + 1) (set words₀ at (word_of double)) (at + 1) h.after (omega arith)
          ∙ front ∙ ap (λ ys. take at words₀ ++ (word_of double ∷ ys)) (sym (moves_none add z))
      by (no n) =
          let m : next ≡ suc (at + 1) = omega (arith, h.next_is, nonzero_one d n) in
          ap (λ k. take k words) m ∙ ap (take (suc (at + 1))) h.words_are
          ∙ take-suc-set (set words₀ at (word_of double)) (at + 1) h.after (omega (arith, length-set words₀ at (word_of double)))
          ∙ ap (λ xs. xs ++ (h.after ∷ [])) front ∙ append_assoc (take at words₀) (word_of double ∷ []) (h.after ∷ [])
          ∙ ap (λ ys. take at words₀ ++ (word_of double ∷ ys)) (sym (h.after_is n))

  lowered_back : drop (next + 1) words ≡ drop (next + 1) words₀
  lowered_back =
      ap (drop (next + 1)) h.words_are
      ∙ drop-set-lt (next + 1) (set words₀ at (word_of double)) (at + 1) h.after (omega (arith, h.next_is))
      ∙ drop-set-lt (next + 1) words₀ at (word_of double) (omega (arith, h.next_is))

-- ---- all places
-- the words of the places from i on stand in front, `at` of them; one word after them means nothing, and behind it all is as it was lent
pub record Laid (ds : List ℤ) (words₀ words : List ℕ) (i at : ℕ) : Type 0 where
  pub within : i ≤ length ds
  pub some : 0 < at
  pub count : length (tape_of (drop i ds)) ≡ at
  pub long : length words ≡ length words₀
  pub front : take at words ≡ tape_of (drop i ds)
  pub back : drop (at + 1) words ≡ drop (at + 1) words₀

module _ (ds : List ℤ) (words₀ : List ℕ) (room : length (tape_of ds) ≤ length words₀) where
  module _ (t x : ℕ) (e : top ds ≡ suc t) (f : moves load (get_or ds t (pos 0)) ≡ x ∷ []) where
    -- the load
    tape_load : tape_of (drop t ds) ≡ x ∷ []
    tape_load = (at_top ds t e).load ∙ f

    some_room : 1 ≤ length words₀
    some_room = omega (arith, ap length tape_load, tape_drop t ds)

    pub laid_load : Laid ds words₀ (set words₀ 0 x) t 1
    laid_load =
        record {
          within = omega (arith, (at_top ds t e).within);
          some = omega arith;
          count = ap length tape_load;
          long = length-set words₀ 0 _;
          front = take-suc-set words₀ 0 _ some_room ∙ sym tape_load;
          back = drop-set-lt 2 words₀ 0 _ (omega arith);
        }

    -- which is all where the top is place 0
    pub laid_only : t ≡ 0 → set words₀ 0 x ≡ tape_of ds ++ drop (length (tape_of ds)) words₀
    laid_only z =
        let tape : tape_of ds ≡ x ∷ [] = ap (λ k. tape_of (drop k ds)) (sym z) ∙ tape_load in
        sets-eq (x ∷ []) words₀ 0 some_room ∙ ap (λ xs. xs ++ drop (length xs) words₀) (sym tape)

  -- the load's store is no part of what is behind
  pub laid_after : (x : ℕ) {words : List ℕ} {i at : ℕ} → Laid ds words₀ words i at → Laid ds (set words₀ 0 x) words i at
  laid_after x {words} {i} {at} h =
      record {
        within = h.within;
        some = h.some;
        count = h.count;
        long = h.long ∙ sym (length-set words₀ 0 x);
        front = h.front;
        back = h.back ∙ sym (drop-set-lt (at + 1) words₀ 0 x (omega arith));
      }

  -- the words of the place under i
  below : (i : ℕ) (d : ℤ) → i < length ds → d ≡ get_or ds i (pos 0) → 0 < length (tape_of (drop (suc i) ds)) → tape_of (drop i ds) ≡ tape_of (drop (suc i) ds) ++ (word_of double ∷ moves add d)
  unfolding tape_of down
  below i d l e h = ap tape_of (drop-cons ds i (pos 0) l) ∙ ap (down (tape_of (drop (suc i) ds))) (sym e) ∙ by (tape_of (drop (suc i) ds)) h
    where
      by : (xs : List ℕ) → 0 < length xs → down xs d ≡ xs ++ (word_of double ∷ moves add d)
      by [] h = absurd (omega arith)
      by (x ∷ xs) h = refl

  module _ (words : List ℕ) (i at : ℕ) (d : ℤ) (h : Laid ds words₀ words i at) (some : 0 < i) (e : d ≡ get_or ds (i - 1) (pos 0)) where
    -- those of the next place come behind them
    tape_is : tape_of (drop (i - 1) ds) ≡ tape_of (drop i ds) ++ (word_of double ∷ moves add d)
    tape_is =
        let n : suc (i - 1) ≡ i = omega arith in
        subst (λ k. tape_of (drop (i - 1) ds) ≡ tape_of (drop k ds) ++ (word_of double ∷ moves add d)) n
        (below (i - 1) d (omega (arith, h.within)) e (omega (arith, ap (λ k. length (tape_of (drop k ds))) n, h.count, h.some)))

    length_is : length (tape_of (drop (i - 1) ds)) ≡ at + 1 + nonzero d
    length_is = ap length tape_is ∙ length-append (tape_of (drop i ds)) (word_of double ∷ moves add d) ∙ omega (arith, h.count, length_moves add d)

    -- they have room
    pub laid_room : at + 1 + nonzero d ≤ length words
    laid_room = omega (arith, h.long, length_is, tape_drop (i - 1) ds)

    -- and so has the double of the place after that
    pub laid_next : 1 < i → at + 1 < length words
    laid_next l =
        let j = i - 1 - 1 in
        let n : i - 1 ≡ suc j = omega arith in
        let same = ap (λ k. length (tape_of (drop k ds))) n in
        let more = ap length (below j (get_or ds j (pos 0)) (omega (arith, h.within)) refl (omega (arith, length_is))) in
        omega (arith, more, length-append (tape_of (drop (suc j) ds)) (word_of double ∷ moves add (get_or ds j (pos 0))), length_is, h.long, tape_drop j ds)

    -- what is behind them stays
    behind : (n : ℕ) → at + 1 ≤ n → drop n words ≡ drop n words₀
    behind n l =
        let m = n - (at + 1) in
        let k : n ≡ at + 1 + m = omega arith in
        ap (λ j. drop j words) k ∙ sym (drop-drop m (at + 1) words) ∙ ap (drop m) h.back ∙ drop-drop m (at + 1) words₀ ∙ ap (λ j. drop j words₀) (sym k)

    pub laid_down : (next : ℕ) (words' : List ℕ) → at + 1 < length words → Lowered d at words next words' → Laid ds words₀ words' (i - 1) next
    laid_down next words' r k =
        record {
          within = omega (arith, h.within);
          some = omega (arith, k.next_is);
          count = length_is ∙ sym k.next_is;
          long = lowered_length k r ∙ h.long;
          front = lowered_front k r ∙ ap (λ xs. xs ++ (word_of double ∷ moves add d)) h.front ∙ sym tape_is;
          back = lowered_back k r ∙ behind (next + 1) (omega (arith, k.next_is));
        }

    -- at place 0 all are written
    pub laid_all : i ≡ 1 → sets words at (word_of double ∷ moves add d) ≡ tape_of ds ++ drop (length (tape_of ds)) words₀
    laid_all z =
        let ys = word_of double ∷ moves add d in
        let n = at + length ys in
        let none : i - 1 ≡ 0 = omega arith in
        let all : tape_of (drop (i - 1) ds) ≡ tape_of ds = ap (λ k. tape_of (drop k ds)) none in
        let size : n ≡ length (tape_of ds) = omega (arith, ap length all, length_is, length_moves add d) in
        sets-eq ys words at (omega (arith, laid_room, length_moves add d))
        ∙ ap (λ xs. (xs ++ ys) ++ drop n words) h.front ∙ ap (λ xs. xs ++ drop n words) (sym tape_is ∙ all)
        ∙ ap (λ xs. tape_of ds ++ xs) (behind n (omega arith) ∙ ap (λ k. drop k words₀) size)

-- a string with no top has no words
pub laid_none : (ds : List ℤ) (words : List ℕ) → top ds ≡ 0 → words ≡ tape_of ds ++ drop (length (tape_of ds)) words
laid_none ds words h = ap (λ xs. xs ++ drop (length xs) words) (sym (tape_topless ds h))

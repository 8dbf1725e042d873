-- Entries looked at one by one: the next of them, their order, their weight and top, and the digit that they give a place. Assumes nothing.
use mathlib.Core.Path.{◌≡◌, refl, sym, ap, ◌∙◌}
use mathlib.Core.Bool.{Bool, true, false}
use mathlib.Core.List.{List, [], ◌∷◌}
use Prim.Native.Nat.{ℕ, zero, suc, ◌+◌, ◌*◌, ◌<◌, ◌≤◌}
use native.Mathlib.Nat.{zero-add}
use native.Mathlib.Numerals.{add-one, add-two, add-three}
use native.Mathlib.Omega.{arith}
use lib.IntN.{ℤ}
use lib.ListN.{length, get_or, drop, drop_of_length-le}
use lib.Seq.{drop-cons}
use Rattle.meaning.specs.Digits.{nonzero, weight, top, over, listed}
use Rattle.meaning.specs.Hexadecimal.{bytes_of}
use Rattle.meaning.specs.Frames.{digit_of, Entry, entries_from, entries_of, rising, digit_at, number_at, entries_in}
use Rattle.hexadecimal.proofs.Characters.{bytes_count}
use Rattle.layout.proofs.Entries.{Seen, is_zero, is_one, seen, entries_zero, entries_one, Rises, rises, entries_count, entries_string}
use borrow.Author.Tests.{le-leb, lt-ltb, eq-eqb}
use Rattle.frames.specs.Orders.{above, from}

-- ---- the entry at an index
three : (bs : List ℕ) (m : ℕ) → m + 2 < length bs → drop m bs ≡ get_or bs m 0 ∷ get_or bs (m + 1) 0 ∷ get_or bs (m + 2) 0 ∷ drop (m + 3) bs
three bs m h =
    drop-cons bs m 0 (omega arith)
    ∙ ap (λ l. get_or bs m 0 ∷ l) (drop-cons bs (suc m) 0 (omega arith))
    ∙ ap (λ l. get_or bs m 0 ∷ get_or bs (suc m) 0 ∷ l) (drop-cons bs (suc (suc m)) 0 (omega arith))
    ∙ rw (add-one m, add-two m, add-three m)

abbrev pub entry : List ℕ → ℕ → Entry
entry bs k = (number_at bs (7 + 3 * k), digit_of (get_or bs (7 + 3 * k + 2) 0))

module _ (bs : List ℕ) (n : ℕ) (whole : 7 + 3 * n ≡ length bs) where
  -- then those after it
  pub from_next : (k : ℕ) → k < n → from bs k ≡ entry bs k ∷ from bs (k + 1)
  unfolding entries_of
  from_next k h =
      let e : 7 + 3 * k + 3 ≡ 7 + 3 * (k + 1) = omega arith in
      ap entries_of (three bs (7 + 3 * k) (omega arith)) ∙ ap (λ m. entry bs k ∷ entries_of (drop m bs)) e

  pub from_end : from bs n ≡ []
  unfolding entries_of
  from_end = ap entries_of (drop_of_length-le bs {i = 7 + 3 * n} (omega arith))

  -- there are n
  pub from_count : (k m : ℕ) → k + m ≡ n → length (from bs k) ≡ m
  from_count k zero e =
      let q : k ≡ n = omega arith in
      ap (λ j. length (from bs j)) q ∙ ap length from_end
  from_count k (suc m) e = ap length (from_next k (omega arith)) ∙ ap suc (from_count (k + 1) m (omega arith))

-- it stands within the line
pub room : (line : List ℕ) (count k : ℕ) → 7 + 3 * count ≡ length (bytes_of line) → k < count → 2 * (7 + 3 * k) + 5 < length line
room line count k e h = omega (arith, bytes_count line)

-- ---- their order
-- the entries under entry k are looked at, and places under floor are passed
pub record Passed (bs : List ℕ) (n count floor k : ℕ) : Type 0 where
  pub within : k ≤ count
  pub rises : rising floor n (from bs k) ≡ rising 0 n (entries_in bs)
  pub aboves : above floor (from bs k) ≡ above 0 (entries_in bs)

module _ (bs : List ℕ) (n count : ℕ) (whole : 7 + 3 * count ≡ length bs) where
  pub pass_none : Passed bs n count 0 0
  pass_none = record { within = omega arith; rises = refl; aboves = refl }

  module _ (floor k : ℕ) (P : Passed bs n count floor k) where
    -- the next entry's place is none of those, it is below n, and its digit is not 0
    pub pass_more : k < count → floor ≤ (entry bs k).0 → (entry bs k).0 < n → nonzero (entry bs k).1 ≡ 1 → Passed bs n count ((entry bs k).0 + 1) (k + 1)
    unfolding rising above
    pass_more h l w o =
        let p = (entry bs k).0 in
        let e = from_next bs count whole k h in
        let rest = from bs (k + 1) in
        let step : rising floor n (entry bs k ∷ rest) ≡ rising (suc p) n rest = rw (le-leb floor p l, lt-ltb p n w, eq-eqb (nonzero (entry bs k).1) 1 o) in
        record {
          within = omega arith;
          rises = ap (λ q. rising q n rest) (add-one p) ∙ sym step ∙ sym (ap (rising floor n) e) ∙ P.rises;
          aboves = ap (λ q. above q rest) (add-one p) ∙ sym (ap (above floor) e) ∙ P.aboves;
        }

    -- or they do not rise
    pub pass_broken : k < count → (Rises floor n (entry bs k) (from bs (k + 1)) → ⊥) → rising 0 n (entries_in bs) ≡ false
    pass_broken h f = sym P.rises ∙ go (rising floor n (from bs k)) refl
      where
        go : (b : Bool) → rising floor n (from bs k) ≡ b → b ≡ false
        go false e = refl
        go true e = absurd (f (rises floor n (entry bs k) (from bs (k + 1)) (sym (ap (rising floor n) (from_next bs count whole k h)) ∙ e)))

    pub pass_all : count ≤ k → (rising 0 n (entries_in bs) ≡ true) × (floor ≡ above 0 (entries_in bs))
    unfolding rising above
    pass_all h =
        let q : k ≡ count = omega (arith, P.within) in
        let e : from bs k ≡ [] = ap (from bs) q ∙ from_end bs count whole in
        (sym P.rises ∙ ap (rising floor n) e, sym (ap (above floor) e) ∙ P.aboves)

-- ---- their weight and top
-- the top over places under p that go up to f
abbrev lift : ℕ → ℕ → ℕ → ℕ
lift p f zero = f
lift p f (suc t) = p + suc t

above_from : (f p : ℕ) (ds : List ℤ) → above f (entries_from p ds) ≡ lift p f (top ds)
unfolding above entries_from top
above_from f p [] = refl
above_from f p (d ∷ ds) = go (seen d) (above_from f (suc p) ds) (above_from (suc p) (suc p) ds)
  where
    zeros : (t : ℕ) → lift (suc p) f t ≡ lift p f (over 0 t)
    zeros zero = refl
    zeros (suc t) = omega arith

    ones : (t : ℕ) → lift (suc p) (suc p) t ≡ lift p f (over 1 t)
    ones zero = omega arith
    ones (suc t) = omega arith

    go : Seen d → above f (entries_from (suc p) ds) ≡ lift (suc p) f (top ds) → above (suc p) (entries_from (suc p) ds) ≡ lift (suc p) (suc p) (top ds)
        → above f (entries_from p (d ∷ ds)) ≡ lift p f (over (nonzero d) (top ds))
    go (is_zero e z) g h = rw (entries_zero p d ds z, z) (g ∙ zeros (top ds))
    go (is_one z) g h = rw (entries_one p d ds z, z) (h ∙ ones (top ds))

module _ (n : ℕ) (es : List Entry) (rises : rising 0 n es ≡ true) where
  abbrev string : List ℤ
  string = listed (digit_at es) 0 n

  again : entries_from 0 string ≡ es
  again = entries_string 0 n es (rw (zero-add n) rises)

  pub entries_weight : weight string ≡ length es
  entries_weight = sym (entries_count 0 string) ∙ ap length again

  pub entries_top : top string ≡ above 0 es
  entries_top = sym (ap (above 0) (sym again) ∙ above_from 0 0 string ∙ whole (top string))
    where
      whole : (t : ℕ) → lift 0 0 t ≡ t
      whole zero = refl
      whole (suc t) = omega arith

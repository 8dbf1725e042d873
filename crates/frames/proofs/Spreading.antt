-- The entries of a line, put one by one where zeros stood. Assumes nothing.
use mathlib.Core.Path.{◌≡◌, refl, sym, ap, ◌∙◌}
use mathlib.Core.Bool.{true}
use mathlib.Core.List.{List, ◌∷◌, ◌++◌}
use Prim.Native.Nat.{ℕ, suc, ◌+◌, ◌*◌, ◌-◌, ◌<◌, ◌≤◌}
use native.Mathlib.Decide.{dec_lt, ℕ_discrete}
use native.Mathlib.Omega.{arith}
use lib.IntN.{ℤ, pos}
use lib.ListN.{length, get_or, drop, set, length-set, length-append, length-drop, get_or-append}
use lib.Seq.{get_or-drop}
use Rattle.std.proofs.Math.ListN.{replicate}
use Rattle.std.proofs.lemmas.List.{ext_get_or, get_or-append_right, get_or-set_other, get_or-set_same, length-replicate, get_or-replicate}
use Rattle.meaning.specs.Digits.{listed}
use Rattle.meaning.specs.Hexadecimal.{bytes_of}
use Rattle.meaning.specs.Frames.{rising, digit_at, number_at, entries_in, places_in, digits_in}
use Rattle.forms.proofs.Listed.{listed_length, listed_front}
use Rattle.layout.specs.Wholes.{SparseFrame}
use Rattle.layout.proofs.Bytes.{sparse_places, sparse_digits}
use Rattle.layout.proofs.Entries.{Rises, rises, rising_of, digit_under, digit_here, digit_past}
use Rattle.frames.specs.Orders.{from}
use Rattle.frames.proofs.Ordering.{entry, from_next, from_end}

-- the entries under entry k stand at their places, all of them under a floor; at the other places under n stands 0, and past them what stood there
pub record Spread (bs : List ℕ) (n : ℕ) (d₀ d : List ℤ) (k : ℕ) : Type 0 where
  pub floor : ℕ
  pub same_length : length d ≡ length d₀
  pub rise : rising floor n (from bs k) ≡ true
  pub ahead : (j : ℕ) → floor ≤ j → digit_at (from bs k) j ≡ digit_at (entries_in bs) j
  pub under : (j : ℕ) → j < floor → j < n → get_or d j (pos 0) ≡ digit_at (entries_in bs) j
  pub zeros : (j : ℕ) → floor ≤ j → j < n → get_or d j (pos 0) ≡ pos 0
  pub rest : (j : ℕ) → n ≤ j → get_or d j (pos 0) ≡ get_or d₀ j (pos 0)

module _ (bs : List ℕ) (n : ℕ) (d₀ : List ℤ) (room : n ≤ length d₀) where
  -- zeros alone
  pub spread_none : rising 0 n (entries_in bs) ≡ true → Spread bs n d₀ (replicate n (pos 0) ++ drop n d₀) 0
  spread_none r =
      let zero : length (replicate n (pos 0)) ≡ n = length-replicate n (pos 0) in
      record {
        floor = 0;
        same_length = length-append (replicate n (pos 0)) (drop n d₀) ∙ omega (arith, zero, length-drop n d₀);
        rise = r;
        ahead = λ j h. refl;
        under = λ j h. absurd (omega arith);
        zeros = λ j h l. get_or-append (replicate n (pos 0)) (drop n d₀) (pos 0) j (omega arith) ∙ get_or-replicate n j (pos 0) (pos 0) l;
        rest = λ j h.
            let e : n + (j - n) ≡ j = omega arith in
            get_or-append_right (replicate n (pos 0)) (drop n d₀) n j (pos 0) zero h ∙ get_or-drop n d₀ (j - n) (pos 0) ∙ ap (λ i. get_or d₀ i (pos 0)) e;
      }

  -- the place of the next one is below n
  pub place_within : (count : ℕ) → 7 + 3 * count ≡ length bs → (d : List ℤ) (k : ℕ) → Spread bs n d₀ d k → k < count → (entry bs k).0 < n
  place_within count whole d k S h = (rises S.floor n (entry bs k) (from bs (k + 1)) (sym (ap (rising S.floor n) (from_next bs count whole k h)) ∙ S.rise)).within

  -- one entry more
  pub spread_more : (count : ℕ) → 7 + 3 * count ≡ length bs → (d : List ℤ) (k : ℕ) → Spread bs n d₀ d k → k < count → Spread bs n d₀ (set d (entry bs k).0 (entry bs k).1) (k + 1)
  spread_more count whole d k S h =
      record {
        floor = suc p;
        same_length = length-set d p v ∙ S.same_length;
        rise = R.rest;
        ahead = λ j l. sym (digit_past (entry bs k) es j (λ z. omega arith)) ∙ sym (ap (λ l. digit_at l j) split) ∙ S.ahead j (omega (arith, R.least));
        under = λ j l m. by j l m (ℕ_discrete j p) (dec_lt j S.floor);
        zeros = λ j l m. other j (λ z. omega arith) ∙ S.zeros j (omega (arith, R.least)) m;
        rest = λ j l. other j (λ z. omega (arith, R.within)) ∙ S.rest j l;
      }
    where
      p : ℕ
      p = (entry bs k).0

      v : ℤ
      v = (entry bs k).1

      es : List (ℕ × ℤ)
      es = from bs (k + 1)

      split : from bs k ≡ entry bs k ∷ es
      split = from_next bs count whole k h

      R : Rises S.floor n (entry bs k) es
      R = rises S.floor n (entry bs k) es (sym (ap (rising S.floor n) split) ∙ S.rise)

      fits : p < length d
      fits = omega (arith, R.within, S.same_length)

      other : (j : ℕ) → (p ≡ j → ⊥) → get_or (set d p v) j (pos 0) ≡ get_or d j (pos 0)
      other j n = get_or-set_other d p j v (pos 0) (λ z. n (sym z))

      by : (j : ℕ) → j < suc p → j < n → Dec (j ≡ p) → Dec (j < S.floor) → get_or (set d p v) j (pos 0) ≡ digit_at (entries_in bs) j
      by j l m (yes e) _ =
          rw e (get_or-set_same d p v (pos 0) fits ∙ sym (digit_here (entry bs k) es) ∙ sym (ap (λ l. digit_at l p) split) ∙ S.ahead p R.least)
      by j l m (no z) (yes u) = other j (λ q. z (sym q)) ∙ S.under j u m
      by j l m (no z) (no u) =
          other j (λ q. z (sym q))
          ∙ S.zeros j (omega arith) m
          ∙ sym (digit_under p n (from bs k) j (ap (rising p n) split ∙ rising_of p n (entry bs k) es (record { least = omega arith; within = R.within; one = R.one; rest = R.rest })) (omega arith))
          ∙ S.ahead j (omega arith)

-- and all
pub spread_all : (line : List ℕ) → SparseFrame line → (count : ℕ) → 7 + 3 * count ≡ length (bytes_of line) → (n : ℕ) → n ≡ number_at (bytes_of line) 5 → (d₀ d : List ℤ) → n ≤ length d₀
    → Spread (bytes_of line) n d₀ d count → d ≡ digits_in (bytes_of line) ++ drop (places_in (bytes_of line)) d₀
unfolding digit_at
spread_all line f count whole n is d₀ d room S =
    ext_get_or (pos 0) d (listed g 0 n ++ drop n d₀) (S.same_length ∙ omega (arith, length-append (listed g 0 n) (drop n d₀), listed_length g 0 n, length-drop n d₀)) (λ j h. at j (dec_lt j n) (dec_lt j S.floor))
    ∙ ap (λ m. listed g 0 m ++ drop m d₀) is
    ∙ sym (ap (λ l. l ++ drop (places_in bs) d₀) (sparse_digits bs f.sparse) ∙ ap (λ m. listed g 0 (number_at bs 5) ++ drop m d₀) (sparse_places bs f.sparse))
  where
    bs : List ℕ
    bs = bytes_of line

    g : ℕ → ℤ
    g = digit_at (entries_in bs)

    at : (j : ℕ) → Dec (j < n) → Dec (j < S.floor) → get_or d j (pos 0) ≡ get_or (listed g 0 n ++ drop n d₀) j (pos 0)
    at j (yes l) (yes u) = S.under j u l ∙ sym (listed_front g n j (pos 0) (drop n d₀) l)
    at j (yes l) (no u) =
        S.zeros j (omega arith) l
        ∙ sym (ap (λ l. digit_at l j) (from_end bs count whole))
        ∙ S.ahead j (omega arith)
        ∙ sym (listed_front g n j (pos 0) (drop n d₀) l)
    at j (no l) _ =
        let e : n + (j - n) ≡ j = omega arith in
        S.rest j (omega arith)
        ∙ sym (get_or-append_right (listed g 0 n) (drop n d₀) n j (pos 0) (listed_length g 0 n) (omega arith) ∙ get_or-drop n d₀ (j - n) (pos 0) ∙ ap (λ i. get_or d₀ i (pos 0)) e)

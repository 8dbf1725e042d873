-- Digits as bytes, and strings as entries: each is had back from the other. Assumes nothing.
use mathlib.Core.Path.{◌≡◌, refl, sym, ap, ◌∙◌}
use mathlib.Core.Logic.{◌≢◌}
use mathlib.Core.Bool.{true}
use mathlib.Core.List.{List, [], ◌∷◌}
use Prim.Native.Nat.{ℕ, zero, suc, ◌+◌, ◌*◌, ◌-◌, ◌/◌, ◌%◌, ◌<◌, ◌≤◌}
use native.Mathlib.Omega.{arith}
use native.Mathlib.Decide.{dec_lt, ℕ_discrete}
use lib.Dec.{leb, ltb, eqb}
use lib.IntN.{ℤ, pos, negsuc}
use lib.ListN.{length}
use borrow.Author.Tests.{le-leb, lt-ltb, le-ltb, eq-eqb, ne_eqb, leb-true, ltb-true, eqb-true}
use Rattle.meaning.specs.Digits.{nonzero, weight, listed}
use Rattle.meaning.specs.Frames.{byte_of, digit_bytes, signed, all_signed, digit_of, digits_of, Entry, entries_from, entry_bytes, entries_of, rising, digit_at}
use Rattle.hexadecimal.proofs.Capitals.{all_bytes, both_true}

-- ---- a digit and its byte
pub byte_below : (d : ℤ) → signed d ≡ true → byte_of d < 256
unfolding signed byte_of
byte_below (pos n) s = omega (arith, ltb-true n 128 s)
byte_below (negsuc n) s = omega arith

pub digit_byte : (d : ℤ) → signed d ≡ true → digit_of (byte_of d) ≡ d
unfolding signed byte_of digit_of
digit_byte (pos n) s = rw s
digit_byte (negsuc n) s =
    let h = ltb-true n 128 s in
    let e : 255 - (255 - n) ≡ n = omega arith in
    rw (le-ltb (255 - n) 128 (omega arith), e)

pub byte_digit : (b : ℕ) → b < 256 → byte_of (digit_of b) ≡ b
unfolding byte_of digit_of
byte_digit b h = go (dec_lt b 128)
  where
    go : Dec (b < 128) → byte_of (digit_of b) ≡ b
    go (yes l) = rw (lt-ltb b 128 l)
    go (no l) = rw (le-ltb b 128 (omega arith)) (omega arith)

-- ---- digits and their bytes
first_signed : (d : ℤ) (ds : List ℤ) → all_signed (d ∷ ds) ≡ true → (signed d ≡ true) × (all_signed ds ≡ true)
unfolding all_signed
first_signed d ds s = both_true (signed d) (all_signed ds) s

pub bytes_of_digits : (ds : List ℤ) → all_signed ds ≡ true → all_bytes (digit_bytes ds)
unfolding digit_bytes
bytes_of_digits [] s = tt
bytes_of_digits (d ∷ ds) s = let f = first_signed d ds s in (byte_below d f.0, bytes_of_digits ds f.1)

pub digits_bytes : (ds : List ℤ) → all_signed ds ≡ true → digits_of (digit_bytes ds) ≡ ds
unfolding digit_bytes digits_of
digits_bytes [] s = refl
digits_bytes (d ∷ ds) s = let f = first_signed d ds s in rw (digit_byte d f.0, digits_bytes ds f.1)

pub bytes_digits : (bs : List ℕ) → all_bytes bs → digit_bytes (digits_of bs) ≡ bs
unfolding digit_bytes digits_of
bytes_digits [] t = refl
bytes_digits (b ∷ bs) (h, t) = rw (byte_digit b h, bytes_digits bs t)

pub digits_count : (bs : List ℕ) → length (digits_of bs) ≡ length bs
unfolding digits_of
digits_count [] = refl
digits_count (b ∷ bs) = ap suc (digits_count bs)

pub digits_length : (ds : List ℤ) → length (digit_bytes ds) ≡ length ds
unfolding digit_bytes
digits_length [] = refl
digits_length (d ∷ ds) = ap suc (digits_length ds)

-- ---- lists of the values of a function
listed_same : {A : Type 0} (f g : ℕ → A) (p n : ℕ) → ((j : ℕ) → p ≤ j → f j ≡ g j) → listed f p n ≡ listed g p n
unfolding listed
listed_same f g p zero h = refl
listed_same f g p (suc n) h = rw (h p (omega arith), listed_same f g (suc p) n (λ j l. h j (omega arith)))

-- ---- a digit is 0, or one of the nonzeros
pub data Seen (d : ℤ) : Type 0 where
  is_zero : d ≡ pos 0 → nonzero d ≡ 0 → Seen d
  is_one : nonzero d ≡ 1 → Seen d

pub seen : (d : ℤ) → Seen d
unfolding nonzero
seen (pos zero) = is_zero refl refl
seen (pos (suc n)) = is_one refl
seen (negsuc n) = is_one refl

module _ (p : ℕ) (d : ℤ) (ds : List ℤ) where
  pub entries_zero : nonzero d ≡ 0 → entries_from p (d ∷ ds) ≡ entries_from (suc p) ds
  unfolding entries_from
  entries_zero e = rw e

  pub entries_one : nonzero d ≡ 1 → entries_from p (d ∷ ds) ≡ (p, d) ∷ entries_from (suc p) ds
  unfolding entries_from
  entries_one e = rw e

-- ---- rising entries
-- the first one, and the others
pub record Rises (p n : ℕ) (e : Entry) (es : List Entry) : Type 0 where
  pub least : p ≤ e.0
  pub within : e.0 < n
  pub one : nonzero e.1 ≡ 1
  pub rest : rising (suc e.0) n es ≡ true

module _ (p n : ℕ) (e : Entry) (es : List Entry) where
  pub rises : rising p n (e ∷ es) ≡ true → Rises p n e es
  unfolding rising
  rises t =
      let a = both_true (leb p e.0) _ t in
      let b = both_true (ltb e.0 n) _ a.1 in
      let c = both_true (eqb (nonzero e.1) 1) _ b.1 in
      record { least = leb-true p e.0 a.0; within = ltb-true e.0 n b.0; one = eqb-true (nonzero e.1) 1 c.0; rest = c.1 }

  pub rising_of : Rises p n e es → rising p n (e ∷ es) ≡ true
  unfolding rising
  rising_of r = rw (le-leb p e.0 r.least, lt-ltb e.0 n r.within, eq-eqb (nonzero e.1) 1 r.one, r.rest)

-- from a lower place on too
pub rising_lower : (p q n : ℕ) (es : List Entry) → q ≤ p → rising p n es ≡ true → rising q n es ≡ true
unfolding rising
rising_lower p q n [] h t = refl
rising_lower p q n (e ∷ es) h t =
    let r = rises p n e es t in
    rising_of q n e es (record { least = omega (arith, r.least); within = r.within; one = r.one; rest = r.rest })

-- under the lowest there is none
pub digit_under : (p n : ℕ) (es : List Entry) (j : ℕ) → rising p n es ≡ true → j < p → digit_at es j ≡ pos 0
unfolding digit_at
digit_under p n [] j t h = refl
digit_under p n (e ∷ es) j t h =
    let r = rises p n e es t in
    rw (ne_eqb e.0 j (λ q. omega (arith, r.least))) (digit_under (suc e.0) n es j r.rest (omega (arith, r.least)))

module _ (e : Entry) (es : List Entry) where
  pub digit_here : digit_at (e ∷ es) e.0 ≡ e.1
  unfolding digit_at
  digit_here = rw (eq-eqb e.0 e.0 refl)

  pub digit_past : (j : ℕ) → e.0 ≢ j → digit_at (e ∷ es) j ≡ digit_at es j
  unfolding digit_at
  digit_past j n = rw (ne_eqb e.0 j n)

-- ---- a string's entries
-- rise
pub entries_rise : (p n : ℕ) (ds : List ℤ) → p + length ds ≤ n → rising p n (entries_from p ds) ≡ true
unfolding entries_from rising
entries_rise p n [] h = refl
entries_rise p n (d ∷ ds) h = go (seen d) (entries_rise (suc p) n ds (omega arith))
  where
    go : Seen d → rising (suc p) n (entries_from (suc p) ds) ≡ true → rising p n (entries_from p (d ∷ ds)) ≡ true
    go (is_zero e z) t = rw (entries_zero p d ds z) (rising_lower (suc p) p n (entries_from (suc p) ds) (omega arith) t)
    go (is_one z) t =
        rw (entries_one p d ds z)
        (rising_of p n (p, d) (entries_from (suc p) ds) (record { least = omega arith; within = omega arith; one = z; rest = t }))

-- give the string back
pub string_entries : (p : ℕ) (ds : List ℤ) → listed (digit_at (entries_from p ds)) p (length ds) ≡ ds
unfolding listed
string_entries p [] = refl
string_entries p (d ∷ ds) = go (seen d) (string_entries (suc p) ds) (entries_rise (suc p) (suc p + length ds) ds (omega arith))
  where
    es : List Entry
    es = entries_from (suc p) ds

    go : Seen d → listed (digit_at es) (suc p) (length ds) ≡ ds → rising (suc p) (suc p + length ds) es ≡ true
        → digit_at (entries_from p (d ∷ ds)) p ∷ listed (digit_at (entries_from p (d ∷ ds))) (suc p) (length ds) ≡ d ∷ ds
    go (is_zero e z) f t = rw (entries_zero p d ds z, digit_under (suc p) (suc p + length ds) es p t (omega arith), f, e)
    go (is_one z) f t =
        rw (entries_one p d ds z, digit_here (p, d) es)
        (ap (λ l. d ∷ l) (listed_same (digit_at ((p, d) ∷ es)) (digit_at es) (suc p) (length ds) (λ j h. digit_past (p, d) es j (λ q. omega arith)) ∙ f))

-- are as many as its nonzeros
pub entries_count : (p : ℕ) (ds : List ℤ) → length (entries_from p ds) ≡ weight ds
unfolding entries_from weight
entries_count p [] = refl
entries_count p (d ∷ ds) = go (seen d) (entries_count (suc p) ds)
  where
    go : Seen d → length (entries_from (suc p) ds) ≡ weight ds → length (entries_from p (d ∷ ds)) ≡ nonzero d + weight ds
    go (is_zero e z) f = rw (entries_zero p d ds z) (omega arith)
    go (is_one z) f = rw (entries_one p d ds z) (omega arith)

-- ---- rising entries are those of the string that they give
pub entries_string : (p m : ℕ) (es : List Entry) → rising p (p + m) es ≡ true → entries_from p (listed (digit_at es) p m) ≡ es
unfolding listed entries_from digit_at rising nonzero
entries_string p zero [] t = refl
entries_string p zero (e ∷ es) t = let r = rises p (p + 0) e es t in absurd (omega (arith, r.least, r.within))
entries_string p (suc m) [] t = entries_string (suc p) m [] refl
entries_string p (suc m) (e ∷ es) t = go (ℕ_discrete e.0 p) (entries_string (suc p) m es) (entries_string (suc p) m (e ∷ es))
  where
    n : p + suc m ≡ suc p + m
    n = omega arith

    r : Rises p (suc p + m) e es
    r = rises p (suc p + m) e es (rw n at t)

    rest : List ℤ
    rest = listed (digit_at (e ∷ es)) (suc p) m

    go : Dec (e.0 ≡ p) → (rising (suc p) (suc p + m) es ≡ true → entries_from (suc p) (listed (digit_at es) (suc p) m) ≡ es)
        → (rising (suc p) (suc p + m) (e ∷ es) ≡ true → entries_from (suc p) rest ≡ e ∷ es) → entries_from p (digit_at (e ∷ es) p ∷ rest) ≡ e ∷ es
    go (yes q) f g =
        let here : digit_at (e ∷ es) p ≡ e.1 = ap (digit_at (e ∷ es)) (sym q) ∙ digit_here e es in
        let others : rest ≡ listed (digit_at es) (suc p) m =
        listed_same (digit_at (e ∷ es)) (digit_at es) (suc p) m (λ j h. digit_past e es j (λ z. omega arith)) in
        let rises_on : rising (suc p) (suc p + m) es ≡ true = ap (λ k. rising (suc k) (suc p + m) es) (sym q) ∙ r.rest in
        entries_one p (digit_at (e ∷ es) p) rest (ap nonzero here ∙ r.one)
        ∙ ap (λ d. (p, d) ∷ entries_from (suc p) rest) here
        ∙ ap (λ k. (k, e.1) ∷ entries_from (suc p) rest) (sym q)
        ∙ ap (λ l. e ∷ l) (ap (entries_from (suc p)) others ∙ f rises_on)
    go (no q) f g =
        let next : rising (suc p) (suc p + m) (e ∷ es) ≡ true =
        rising_of (suc p) (suc p + m) e es (record { least = omega (arith, r.least); within = r.within; one = r.one; rest = r.rest }) in
        entries_zero p (digit_at (e ∷ es) p) rest (ap nonzero (digit_under (suc p) (suc p + m) (e ∷ es) p next (omega arith))) ∙ g next

-- ---- entries and their bytes
pub entry_bytes_length : (es : List Entry) → length (entry_bytes es) ≡ 3 * length es
unfolding entry_bytes
entry_bytes_length [] = refl
entry_bytes_length (e ∷ es) = omega (arith, entry_bytes_length es)

-- a string's entries, from their bytes
pub entries_bytes : (p : ℕ) (ds : List ℤ) → all_signed ds ≡ true → p + length ds ≤ 65536
    → all_bytes (entry_bytes (entries_from p ds)) × (entries_of (entry_bytes (entries_from p ds)) ≡ entries_from p ds)
unfolding entries_from entry_bytes entries_of
entries_bytes p [] s h = (tt, refl)
entries_bytes p (d ∷ ds) s h = go (seen d) (entries_bytes (suc p) ds (first_signed d ds s).1 (omega arith))
  where
    es : List Entry
    es = entries_from (suc p) ds

    go : Seen d → all_bytes (entry_bytes es) × (entries_of (entry_bytes es) ≡ es)
        → all_bytes (entry_bytes (entries_from p (d ∷ ds))) × (entries_of (entry_bytes (entries_from p (d ∷ ds))) ≡ entries_from p (d ∷ ds))
    go (is_zero e z) f = rw (entries_zero p d ds z) f
    go (is_one z) f =
        let q : 256 * (p / 256) + p % 256 ≡ p = omega arith in
        rw (entries_one p d ds z)
        ((omega arith, (omega arith, (byte_below d (first_signed d ds s).0, f.0))), rw (q, digit_byte d (first_signed d ds s).0, f.1))

-- whole entries are the bytes of what they are read to
pub bytes_entries : (bs : List ℕ) → all_bytes bs → length bs % 3 ≡ 0 → entry_bytes (entries_of bs) ≡ bs
unfolding entry_bytes entries_of
bytes_entries [] t e = refl
bytes_entries (a ∷ []) t e = absurd (omega arith)
bytes_entries (a ∷ b ∷ []) t e = absurd (omega arith)
bytes_entries (a ∷ b ∷ c ∷ bs) (h, (k, (l, t))) e =
    let high : (256 * a + b) / 256 ≡ a = omega arith in
    let low : (256 * a + b) % 256 ≡ b = omega arith in
    rw (high, low, byte_digit c l, bytes_entries bs t (omega arith))

-- The bytes of a frame of either version: those written for a string are read to it, and those read without refusal are the ones written for their string.
-- Assumes nothing.
use mathlib.Core.Path.{◌≡◌, refl, sym, ap, ◌∙◌}
use mathlib.Core.Bool.{Bool, true, false, ◌&&◌}
use mathlib.Core.List.{List, [], ◌∷◌}
use Prim.Native.Nat.{ℕ, ◌+◌, ◌*◌, ◌-◌, ◌/◌, ◌%◌, ◌<◌, ◌≤◌}
use native.Mathlib.Nat.{zero-add}
use native.Mathlib.Omega.{arith}
use lib.Dec.{eqb}
use lib.IntN.{ℤ}
use lib.ListN.{length, get_or, drop, length-drop}
use borrow.Author.Tests.{eq-eqb, eqb-true, not-false}
use Rattle.meaning.specs.Digits.{most_places, weight, top, listed}
use Rattle.meaning.specs.Frames.{digit_bytes, all_signed, digits_of, entries_from, entry_bytes, entries_of, rising, digit_at, Version, version1, version2, opening, frame_bytes, is_sparse, weight_in, top_in, entries_in, number_at, places_in, digits_in, in_order, unfit}
use Rattle.forms.proofs.Strings.{weight_le, top_le}
use Rattle.forms.proofs.Listed.{listed_length}
use Rattle.hexadecimal.proofs.Capitals.{all_bytes, both_true}
use Rattle.layout.proofs.Entries.{bytes_of_digits, digits_bytes, bytes_digits, digits_count, digits_length, entries_rise, string_entries, entries_string, entries_bytes, bytes_entries}

-- ---- the fields, by the version
module _ (bs : List ℕ) (sparse : is_sparse bs ≡ true) where
  pub sparse_opens : get_or bs 0 0 ≡ opening
  unfolding is_sparse
  sparse_opens = eqb-true (get_or bs 0 0) opening sparse

  pub sparse_places : places_in bs ≡ number_at bs 5
  unfolding places_in
  sparse_places = rw sparse

  pub sparse_digits : digits_in bs ≡ listed (digit_at (entries_in bs)) 0 (number_at bs 5)
  unfolding digits_in
  sparse_digits = rw sparse

  pub sparse_order : in_order bs ≡ rising 0 (number_at bs 5) (entries_in bs)
  unfolding in_order
  sparse_order = rw sparse

module _ (bs : List ℕ) (plain : is_sparse bs ≡ false) where
  pub plain_places : places_in bs ≡ length bs - 5
  unfolding places_in
  plain_places = rw plain

  pub plain_digits : digits_in bs ≡ digits_of (drop 5 bs)
  unfolding digits_in
  plain_digits = rw plain

  pub plain_order : in_order bs ≡ true
  unfolding in_order
  plain_order = rw plain

-- there are as many digits as places
pub digits_places : (bs : List ℕ) → length (digits_in bs) ≡ places_in bs
digits_places bs = go (is_sparse bs) refl
  where
    go : (b : Bool) → is_sparse bs ≡ b → length (digits_in bs) ≡ places_in bs
    go true e = ap length (sparse_digits bs e) ∙ listed_length (digit_at (entries_in bs)) 0 (number_at bs 5) ∙ sym (sparse_places bs e)
    go false e = ap length (plain_digits bs e) ∙ digits_count (drop 5 bs) ∙ length-drop 5 bs ∙ sym (plain_places bs e)

-- ---- what fits
pub record Fit (bs : List ℕ) : Type 0 where
  pub ordered : in_order bs ≡ true
  pub weight_fits : weight_in bs ≡ weight (digits_in bs)
  pub top_fits : top_in bs ≡ top (digits_in bs)

module _ (bs : List ℕ) where
  pub fit_of : unfit bs ≡ false → Fit bs
  unfolding unfit
  fit_of e =
      let a = both_true (in_order bs) (eqb (weight_in bs) (weight (digits_in bs)) && eqb (top_in bs) (top (digits_in bs))) (not-false _ e) in
      let b = both_true (eqb (weight_in bs) (weight (digits_in bs))) (eqb (top_in bs) (top (digits_in bs))) a.1 in
      record { ordered = a.0; weight_fits = eqb-true (weight_in bs) _ b.0; top_fits = eqb-true (top_in bs) _ b.1 }

  pub unfit_not : Fit bs → unfit bs ≡ false
  unfolding unfit
  unfit_not f = rw (f.ordered, eq-eqb _ _ f.weight_fits, eq-eqb _ _ f.top_fits)

-- ---- written, then read
-- bytes that are read to a string
pub record Hold (bs : List ℕ) (ds : List ℤ) : Type 0 where
  pub digits_are : digits_in bs ≡ ds
  pub places_are : places_in bs ≡ length ds
  pub fit : Fit bs

sparse_is : (ds : List ℤ) → is_sparse (frame_bytes version2 ds) ≡ true
unfolding is_sparse
sparse_is ds = refl

plain_is : (ds : List ℤ) → is_sparse (frame_bytes version1 ds) ≡ false
unfolding is_sparse
plain_is ds = refl

module _ (ds : List ℤ) (all : all_signed ds ≡ true) (few : length ds ≤ most_places) where
  pub frame_all : (v : Version) → all_bytes (frame_bytes v ds)
  frame_all version1 =
      let w = weight_le ds in
      let t = top_le ds in
      (omega arith, (omega arith, (omega arith, (omega arith, (omega arith, bytes_of_digits ds all)))))
  frame_all version2 =
      let w = weight_le ds in
      let t = top_le ds in
      (omega arith, (omega arith, (omega arith, (omega arith, (omega arith, (omega arith, (omega arith, (entries_bytes 0 ds all (omega arith)).0)))))))

  pub frame_hold : (v : Version) → Hold (frame_bytes v ds) ds
  frame_hold version1 =
      let bs = frame_bytes version1 ds in
      let plain = plain_is ds in
      let string : digits_in bs ≡ ds = plain_digits bs plain ∙ digits_bytes ds all in
      record {
        digits_are = string;
        places_are = plain_places bs plain ∙ omega (arith, digits_length ds);
        fit = record {
          ordered = plain_order bs plain;
          weight_fits = rw string (omega arith);
          top_fits = rw string (omega arith);
        };
      }
  frame_hold version2 =
      let bs = frame_bytes version2 ds in
      let sparse = sparse_is ds in
      let count : number_at bs 5 ≡ length ds = omega arith in
      let entries : entries_in bs ≡ entries_from 0 ds = (entries_bytes 0 ds all (omega arith)).1 in
      let string : digits_in bs ≡ ds = sparse_digits bs sparse ∙ rw (count, entries) (string_entries 0 ds) in
      record {
        digits_are = string;
        places_are = sparse_places bs sparse ∙ count;
        fit = record {
          ordered = sparse_order bs sparse ∙ rw (count, entries) (entries_rise 0 (length ds) ds (omega arith));
          weight_fits = rw string (omega arith);
          top_fits = rw string (omega arith);
        };
      }

-- ---- read, then written
-- a number of two bytes is those bytes
two : (a b x : ℕ) → b < 256 → 256 * a + b ≡ x → (x / 256 ≡ a) × (x % 256 ≡ b)
two a b x h e = (omega arith, omega arith)

-- the bytes of a version 2 frame from its fields, and of a version 1 frame
sparse_built : (o a b c d e g : ℕ) (body : List ℕ) (ds : List ℤ) → o ≡ opening → b < 256 → d < 256 → g < 256 → 256 * a + b ≡ weight ds → 256 * c + d ≡ top ds
    → 256 * e + g ≡ length ds → entry_bytes (entries_from 0 ds) ≡ body → frame_bytes version2 ds ≡ o ∷ a ∷ b ∷ c ∷ d ∷ e ∷ g ∷ body
sparse_built o a b c d e g body ds q hb hd hg w t n r =
    let x = two a b (weight ds) hb w in
    let y = two c d (top ds) hd t in
    let z = two e g (length ds) hg n in
    rw (q, x.0, x.1, y.0, y.1, z.0, z.1, r)

plain_built : (o a b c d : ℕ) (body : List ℕ) (ds : List ℤ) → o ≡ 0 → b < 256 → d < 256 → 256 * a + b ≡ weight ds → 256 * c + d ≡ top ds → digit_bytes ds ≡ body
    → frame_bytes version1 ds ≡ o ∷ a ∷ b ∷ c ∷ d ∷ body
plain_built o a b c d body ds q hb hd w t r =
    let x = two a b (weight ds) hb w in
    let y = two c d (top ds) hd t in
    rw (q, x.0, x.1, y.0, y.1, r)

pub sparse_again : (bs : List ℕ) → all_bytes bs → is_sparse bs ≡ true → 7 ≤ length bs → (length bs - 7) % 3 ≡ 0 → Fit bs → frame_bytes version2 (digits_in bs) ≡ bs
sparse_again [] t s h m f = absurd (omega arith)
sparse_again (o ∷ []) t s h m f = absurd (omega arith)
sparse_again (o ∷ a ∷ []) t s h m f = absurd (omega arith)
sparse_again (o ∷ a ∷ b ∷ []) t s h m f = absurd (omega arith)
sparse_again (o ∷ a ∷ b ∷ c ∷ []) t s h m f = absurd (omega arith)
sparse_again (o ∷ a ∷ b ∷ c ∷ d ∷ []) t s h m f = absurd (omega arith)
sparse_again (o ∷ a ∷ b ∷ c ∷ d ∷ e ∷ []) t s h m f = absurd (omega arith)
sparse_again (o ∷ a ∷ b ∷ c ∷ d ∷ e ∷ g ∷ body) (_, (_, (hb, (_, (hd, (_, (hg, t))))))) s h m f =
    let bs = o ∷ a ∷ b ∷ c ∷ d ∷ e ∷ g ∷ body in
    let n = 256 * e + g in
    let q : rising 0 (0 + n) (entries_of body) ≡ true = rw (zero-add n) (sym (sparse_order bs s) ∙ f.ordered) in
    let entries : entry_bytes (entries_from 0 (digits_in bs)) ≡ body =
    ap (λ l. entry_bytes (entries_from 0 l)) (sparse_digits bs s) ∙ ap entry_bytes (entries_string 0 n (entries_of body) q) ∙ bytes_entries body t (omega arith) in
    sparse_built o a b c d e g body (digits_in bs) (sparse_opens bs s) hb hd hg f.weight_fits f.top_fits (sym (digits_places bs ∙ sparse_places bs s)) entries

pub plain_again : (bs : List ℕ) → all_bytes bs → is_sparse bs ≡ false → get_or bs 0 0 ≡ 0 → 5 ≤ length bs → Fit bs → frame_bytes version1 (digits_in bs) ≡ bs
plain_again [] t s z h f = absurd (omega arith)
plain_again (o ∷ []) t s z h f = absurd (omega arith)
plain_again (o ∷ a ∷ []) t s z h f = absurd (omega arith)
plain_again (o ∷ a ∷ b ∷ []) t s z h f = absurd (omega arith)
plain_again (o ∷ a ∷ b ∷ c ∷ []) t s z h f = absurd (omega arith)
plain_again (o ∷ a ∷ b ∷ c ∷ d ∷ body) (_, (_, (hb, (_, (hd, t))))) s z h f =
    let bs = o ∷ a ∷ b ∷ c ∷ d ∷ body in
    plain_built o a b c d body (digits_in bs) z hb hd f.weight_fits f.top_fits (ap digit_bytes (plain_digits bs s) ∙ bytes_digits body t)

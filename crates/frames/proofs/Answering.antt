-- What a reader answers to a line: in each refusal, to a refused line, and to a frame that fits. Assumes nothing.
use mathlib.Core.Path.{◌≡◌, refl, sym, ap, ◌∙◌}
use mathlib.Core.Logic.{◌≢◌}
use mathlib.Core.Bool.{Bool, true, false, not, ◌&&◌}
use mathlib.Core.List.{List, ◌++◌}
use Prim.Native.Nat.{ℕ, ◌+◌, ◌*◌, ◌<◌, ◌≤◌}
use native.Mathlib.Nat.{zero-add}
use native.Mathlib.Omega.{arith}
use lib.Dec.{eqb}
use lib.IntN.{ℤ}
use lib.ListN.{length, get_or, drop}
use borrow.Author.Tests.{le-ltb, eq-eqb, ne_eqb}
use Rattle.meaning.specs.Digits.{most_places, weight, top}
use Rattle.meaning.specs.Refusals.{Rule}
use Rattle.meaning.specs.Hexadecimal.{bytes_of}
use Rattle.meaning.specs.Frames.{rising, number_at as number_in, entries_in, weight_in, top_in, places_in, digits_in, stated, lacking, unreadable, in_order, unfit, read_rules, Parsed, Read}
use Rattle.forms.proofs.Refusals.{Until, number_at, first_at, granted_none, kept_lent}
use Rattle.digits.proofs.Scans.{flag}
use Rattle.layout.proofs.Bytes.{plain_order, sparse_digits, sparse_order, Fit, unfit_not}
use Rattle.layout.proofs.Frames.{no_flag, good_none, stated_bare}
use Rattle.layout.specs.Wholes.{PlainFrame, SparseFrame}
use Rattle.frames.specs.Orders.{above}
use Rattle.std.proofs.Common.{Ok}
use Rattle.frames.specs.declared.reading.Reading.{Reading}
use Rattle.frames.specs.declared.reading.Reading.TheVariants.{Stated, String}
use Rattle.frames.specs.Told.{refused_by, said}
use Rattle.frames.proofs.Ordering.{from_count, entries_weight, entries_top}

-- ---- a frame whose parts are there can be read
module _ (line : List ℕ) where
  pub plain_readable : PlainFrame line → unreadable line ≡ false
  unfolding unreadable lacking
  plain_readable f =
      rw (f.unstated, f.pairs, f.plain, eq-eqb (get_or (bytes_of line) 0 0) 0 f.opens, le-ltb (length (bytes_of line)) 5 f.long)

  pub sparse_readable : SparseFrame line → unreadable line ≡ false
  unfolding unreadable lacking
  sparse_readable f = rw (f.unstated, f.pairs, f.sparse, le-ltb (length (bytes_of line)) 7 f.long, eq-eqb _ 0 f.whole)

-- ---- what does not fit
module _ (bs : List ℕ) where
  and_no : (p : Bool) → not (p && false) ≡ true
  and_no true = refl
  and_no false = refl

  pub unfit_order : in_order bs ≡ false → unfit bs ≡ true
  unfolding unfit
  unfit_order e = rw e

  pub unfit_weight : weight_in bs ≢ weight (digits_in bs) → unfit bs ≡ true
  unfolding unfit
  unfit_weight n = rw (ne_eqb _ _ n) (and_no (in_order bs))

  pub unfit_top : top_in bs ≢ top (digits_in bs) → unfit bs ≡ true
  unfolding unfit
  unfit_top n = rw (ne_eqb _ _ n) (last (in_order bs) (eqb (weight_in bs) (weight (digits_in bs))))
    where
      last : (p q : Bool) → not (p && (q && false)) ≡ true
      last true true = refl
      last true false = refl
      last false q = refl

-- ---- a version 1 frame has its digits in order
pub plain_fit : (line : List ℕ) → PlainFrame line → weight_in (bytes_of line) ≡ weight (digits_in (bytes_of line)) → top_in (bytes_of line) ≡ top (digits_in (bytes_of line)) → Fit (bytes_of line)
plain_fit line f k t = record { ordered = plain_order (bytes_of line) f.plain; weight_fits = k; top_fits = t }

-- ---- a version 2 frame whose entries rise has the weight and the top of its entries
module _ (line : List ℕ) (f : SparseFrame line) (rises : rising 0 (number_in (bytes_of line) 5) (entries_in (bytes_of line)) ≡ true) where
  abbrev bytes : List ℕ
  bytes = bytes_of line

  pub sparse_weight : (n : ℕ) → 7 + 3 * n ≡ length bytes → weight (digits_in bytes) ≡ n
  sparse_weight n e =
      ap weight (sparse_digits bytes f.sparse) ∙ entries_weight (number_in bytes 5) (entries_in bytes) rises ∙ from_count bytes n e 0 n (zero-add n)

  pub sparse_top : top (digits_in bytes) ≡ above 0 (entries_in bytes)
  sparse_top = ap top (sparse_digits bytes f.sparse) ∙ entries_top (number_in bytes 5) (entries_in bytes) rises

  pub sparse_fit : (n : ℕ) → 7 + 3 * n ≡ length bytes → weight_in bytes ≡ n → top_in bytes ≡ above 0 (entries_in bytes) → Fit bytes
  sparse_fit n e k t =
      record {
        ordered = sparse_order bytes f.sparse ∙ rises;
        weight_fits = k ∙ sym (sparse_weight n e);
        top_fits = t ∙ sym sparse_top;
      }

-- ---- the answers
-- what is read is no refusal
pub said_none : (r : Reading) → (said (Ok r)).refusal ≡ 0
said_none (Stated b) = refl
said_none (String k t n) = refl

module _ (line : List ℕ) (digits₀ : List ℤ) where
  abbrev rules : List Rule
  rules = read_rules line (length digits₀)

  -- the rule at index k applies first
  refuses : (k : ℕ) → Until rules k 0 → number_at rules k ≢ 0 → {a : Parsed} → a ≡ refused_by (number_at rules k) → Read line digits₀ a digits₀
  refuses k u n e =
      let r = number_at rules k in
      rw e
      (record {
        first = first_at rules k 0 u;
        stated_is = sym (granted_none r _ n);
        weight_is = sym (granted_none r _ n);
        top_is = sym (granted_none r _ n);
        places_are = sym (granted_none r _ n);
        digits_are = sym (kept_lent r _ digits₀ n);
      })

  pub read_stated : {b : ℕ} → stated line ≡ b → b ≢ 0 → Read line digits₀ (record { refusal = 0; stated = b; weight = 0; top = 0; places = 0 }) digits₀
  read_stated e z =
      let B = stated_bare line (λ q. z (sym e ∙ q)) in
      record {
        first = good_none line (length digits₀) (B.good (length digits₀));
        stated_is = sym e;
        weight_is = sym B.no_weight;
        top_is = sym B.no_top;
        places_are = sym B.no_places;
        digits_are = sym (ap (λ l. l ++ drop (places_in (bytes_of line)) digits₀) B.no_digits ∙ ap (λ m. drop m digits₀) B.no_places);
      }

  module _ (readable : unreadable line ≡ false) where
    pub read_long : {a : Parsed} → most_places < places_in (bytes_of line) → a ≡ refused_by 7 → Read line digits₀ a digits₀
    read_long h e = refuses 1 (no_flag readable, (h, refl)) (λ z. omega arith) e

    module _ (few : places_in (bytes_of line) ≤ most_places) where
      pub read_unfit : {a : Parsed} → unfit (bytes_of line) ≡ true → a ≡ refused_by 21 → Read line digits₀ a digits₀
      read_unfit u e = refuses 2 (no_flag readable, ((λ h. omega arith), (flag u, refl))) (λ z. omega arith) e

      module _ (fits : Fit (bytes_of line)) where
        pub read_short : {a : Parsed} → length digits₀ < places_in (bytes_of line) → a ≡ refused_by 4 → Read line digits₀ a digits₀
        read_short h e = refuses 3 (no_flag readable, ((λ l. omega arith), (no_flag (unfit_not (bytes_of line) fits), (h, refl)))) (λ z. omega arith) e

        pub read_whole : {k t n : ℕ} → stated line ≡ 0 → places_in (bytes_of line) ≤ length digits₀ → {digits : List ℤ} → k ≡ weight_in (bytes_of line) → t ≡ top_in (bytes_of line)
            → n ≡ places_in (bytes_of line) → digits ≡ digits_in (bytes_of line) ++ drop (places_in (bytes_of line)) digits₀
            → Read line digits₀ (record { refusal = 0; stated = 0; weight = k; top = t; places = n }) digits
        read_whole z h a b c d =
            record {
              first = good_none line (length digits₀) (record { readable = readable; short = few; fit = fits; room = h });
              stated_is = sym z;
              weight_is = a;
              top_is = b;
              places_are = c;
              digits_are = d;
            }

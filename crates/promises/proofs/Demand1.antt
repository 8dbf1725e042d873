-- Demand 1. The calls take every input. A refusal gives the number that the document lists, in the order listed there, and no lent buffer differs afterwards.
-- From the calls' promises alone, which have no condition. The checks, the search and the making of a reader are lent nothing to write. Assumes nothing.
use mathlib.Core.Path.{◌≡◌, refl, ◌∙◌}
use mathlib.Core.Logic.{◌≢◌, inl, inr}
use mathlib.Core.List.{List}
use Prim.Native.Nat.{ℕ, ◌+◌}
use native.Mathlib.Omega.{arith}
use lib.Dec.{T}
use lib.IntN.{ℤ, pos}
use lib.ListN.{length}
use Rattle.meaning.specs.Scalars.{Order, number, bit_count}
use Rattle.meaning.specs.Digits.{worth, Tally}
use Rattle.meaning.specs.Forms.{FormIn}
use Rattle.meaning.specs.Refusals.{First}
use Rattle.meaning.specs.Recoding.{mark_words, recode_rules, below_rules}
use Rattle.meaning.specs.Whole.{whole_rules}
use Rattle.meaning.specs.Checking.{check_rules, nonadjacent_rules}
use Rattle.meaning.specs.Taping.{tape_rules}
use Rattle.meaning.specs.Running.{run_rules, Run, Ran}
use Rattle.meaning.specs.Reading.{reader_rules, Holds}
use Rattle.meaning.specs.Searching.{search_rules, Searched, Search}
use Rattle.meaning.specs.Frames.{Version, write_rules, Framed, Write, read_rules, Parsed, Read}
use Rattle.meaning.specs.Requests.{malformed, form_of, width_of, scalar_of, line_rules, Answer}
use Rattle.forms.proofs.Refusals.{kept_lent}
use Rattle.forms.proofs.Forms.{form_exists, form_length, form_worth}
use Rattle.scalar.proofs.Bytes.{Bytes, number_lt}
use Rattle.recoder.specs.Judged.{Allowed}
use Rattle.promises.proofs.Exactly.{Exactly, exactly}
use Rattle.promises.proofs.Recode as Recoding
use Rattle.promises.proofs.Below as Below
use Rattle.promises.proofs.Tape as Taping
use Rattle.promises.proofs.Check as Checking

-- ---- each number exactly when, in order
pub recode_exactly : (form w l : ℕ) (order : Order) (s : List ℕ) (digits₀ : List ℤ) (marks₀ : List ℕ) (o : Recoding.Outcome) → Recoding.Keeps form w l order s digits₀ marks₀ o
    → Exactly (recode_rules form w l s (length digits₀) (length marks₀)) o.tally.refusal o.tally.place
recode_exactly form w l order s digits₀ marks₀ o K = exactly (recode_rules form w l s (length digits₀) (length marks₀)) tt _ _ K.first

pub below_exactly : (form w l : ℕ) (order : Order) (s group : List ℕ) (digits₀ : List ℤ) (marks₀ : List ℕ) (o : Recoding.Outcome) → Below.Keeps form w l order s group digits₀ marks₀ o
    → Exactly (below_rules form w l order s group (length digits₀) (length marks₀)) o.tally.refusal o.tally.place
below_exactly form w l order s group digits₀ marks₀ o K = exactly (below_rules form w l order s group (length digits₀) (length marks₀)) tt _ _ K.first

pub check_exactly : (w l : ℕ) (order : Order) (s : List ℕ) (ds : List ℤ) (v : Tally) → Checking.Keeps (check_rules w l order s ds) ds v → Exactly (check_rules w l order s ds) v.refusal v.place
check_exactly w l order s ds v K = exactly (check_rules w l order s ds) tt _ _ K.first

pub nonadjacent_exactly : (w l : ℕ) (order : Order) (s : List ℕ) (ds : List ℤ) (v : Tally) → Checking.Keeps (nonadjacent_rules w l order s ds) ds v → Exactly (nonadjacent_rules w l order s ds) v.refusal v.place
nonadjacent_exactly w l order s ds v K = exactly (nonadjacent_rules w l order s ds) tt _ _ K.first

pub tape_exactly : (w l : ℕ) (ds : List ℤ) (words₀ : List ℕ) (o : Taping.Outcome) → Taping.Keeps w l ds words₀ o → Exactly (tape_rules w l ds (length words₀)) o.taped.refusal o.taped.place
tape_exactly w l ds words₀ o K = exactly (tape_rules w l ds (length words₀)) tt _ _ K.first

pub run_exactly : (w l : ℕ) (ws : List ℕ) (m g : ℕ) (multiples₀ : List ℕ) (a : Ran) (multiples : List ℕ) → Run w l ws m g multiples₀ a multiples
    → Exactly (run_rules w l ws m (length multiples₀)) a.refusal a.place
run_exactly w l ws m g multiples₀ a multiples K = exactly (run_rules w l ws m (length multiples₀)) tt _ _ K.first

pub reader_exactly : (w : ℕ) (order : Order) (s : List ℕ) (r : ℕ) → Holds w s r → Exactly (reader_rules w s) r 0
reader_exactly w order s r H = exactly (reader_rules w s) tt _ _ H

pub search_exactly : (number w : ℕ) (a : Searched) → Search number w a → Exactly (search_rules number w) a.refusal 0
search_exactly number w a K = exactly (search_rules number w) tt _ _ K.first

pub write_exactly : (v : Version) (ds : List ℤ) (out₀ : List ℕ) (a : Framed) (out : List ℕ) → Write v ds out₀ a out → Exactly (write_rules v ds (length out₀)) a.refusal 0
write_exactly v ds out₀ a out K = exactly (write_rules v ds (length out₀)) tt _ _ K.first

-- reading tries 16 first, and 4 last
pub read_exactly : (line : List ℕ) (digits₀ : List ℤ) (a : Parsed) (digits : List ℤ) → Read line digits₀ a digits → Exactly (read_rules line (length digits₀)) a.refusal 0
read_exactly line digits₀ a digits K = exactly (read_rules line (length digits₀)) tt _ _ K.first

-- the line: the program tries 16 first, and then recode's rules
pub record LineExactly (line : List ℕ) (r : ℕ) : Type 0 where
  pub malformed_first : T (malformed line) → r ≡ 16
  pub malformed_only : r ≡ 16 → T (malformed line)
  pub others : (T (malformed line) → ⊥) → let s = scalar_of line in Exactly (whole_rules (form_of line) (width_of line) s (bit_count s + 1) mark_words) r 0

pub line_exactly : (v : Version) (line out : List ℕ) (A : Answer v line out) → LineExactly line A.refusal
line_exactly v line out A =
    let E = exactly (line_rules line) tt A.refusal 0 A.first in
    record {
      malformed_first = λ h. (E.gives 0 0 (h, refl)).0;
      malformed_only = λ e. (E.only 0 (λ z. omega arith) e).0;
      others = λ n. others n A.first;
    }
  where
    others : (T (malformed line) → ⊥) → First (line_rules line) A.refusal 0
        → let s = scalar_of line in Exactly (whole_rules (form_of line) (width_of line) s (bit_count s + 1) mark_words) A.refusal 0
    others n (inl (e, (h, _))) = absurd (n h)
    others n (inr (_, f)) = exactly _ tt A.refusal 0 f

-- ---- n + 1 places always suffice: in every form, in every set that it has, each scalar has a string of so many, which is worth it, and no digit is needed above them
pub places_suffice : (form w l : ℕ) → Allowed form w l → (order : Order) (s : List ℕ) → Bytes s → (ds : List ℤ) × FormIn form w l (number order s) (bit_count s) ds × (length ds ≡ bit_count s + 1) × (worth ds ≡ pos (number order s))
places_suffice form w l a order s bytes =
    let small = number_lt order s bytes in
    let set = a.pair.between in
    let (ds, f) = form_exists w l (number order s) (bit_count s) set small form a.least a.most in
    (ds, f, form_length w l (number order s) (bit_count s) set small form ds f, form_worth w l (number order s) (bit_count s) set small form ds f)

-- ---- no lent buffer differs after a refusal
pub recode_kept : (form w l : ℕ) (order : Order) (s : List ℕ) (digits₀ : List ℤ) (marks₀ : List ℕ) (o : Recoding.Outcome) → Recoding.Keeps form w l order s digits₀ marks₀ o → o.tally.refusal ≢ 0
    → (o.digits ≡ digits₀) × (o.marks ≡ marks₀)
recode_kept form w l order s digits₀ marks₀ o K n = ((K.refused n).digits_are, (K.refused n).marks_are)

pub below_kept : (form w l : ℕ) (order : Order) (s group : List ℕ) (digits₀ : List ℤ) (marks₀ : List ℕ) (o : Recoding.Outcome) → Below.Keeps form w l order s group digits₀ marks₀ o → o.tally.refusal ≢ 0
    → (o.digits ≡ digits₀) × (o.marks ≡ marks₀)
below_kept form w l order s group digits₀ marks₀ o K n = ((K.refused n).digits_are, (K.refused n).marks_are)

pub tape_kept : (w l : ℕ) (ds : List ℤ) (words₀ : List ℕ) (o : Taping.Outcome) → Taping.Keeps w l ds words₀ o → o.taped.refusal ≢ 0 → o.words ≡ words₀
tape_kept w l ds words₀ o K n = K.words_are ∙ kept_lent o.taped.refusal _ words₀ n

pub run_kept : (w l : ℕ) (ws : List ℕ) (m g : ℕ) (multiples₀ : List ℕ) (a : Ran) (multiples : List ℕ) → Run w l ws m g multiples₀ a multiples → a.refusal ≢ 0 → multiples ≡ multiples₀
run_kept w l ws m g multiples₀ a multiples K n = K.multiples_are ∙ kept_lent a.refusal _ multiples₀ n

pub write_kept : (v : Version) (ds : List ℤ) (out₀ : List ℕ) (a : Framed) (out : List ℕ) → Write v ds out₀ a out → a.refusal ≢ 0 → out ≡ out₀
write_kept v ds out₀ a out K n = K.out_is ∙ kept_lent a.refusal _ out₀ n

pub read_kept : (line : List ℕ) (digits₀ : List ℤ) (a : Parsed) (digits : List ℤ) → Read line digits₀ a digits → a.refusal ≢ 0 → digits ≡ digits₀
read_kept line digits₀ a digits K n = K.digits_are ∙ kept_lent a.refusal _ digits₀ n

-- The promises of writing and reading frames: two outcomes that satisfy one of them for one input are equal; what is written and read is the string that was written; and two lines of
-- a version that are read to the same digits are the same but for the case of letters. Assumes nothing.
use mathlib.Core.Path.{◌≡◌, sym, ap, subst, ◌∙◌}
use mathlib.Core.Bool.{true, false}
use mathlib.Core.List.{List, ◌++◌}
use Prim.Native.Nat.{ℕ, ◌≤◌}
use lib.IntN.{ℤ}
use lib.ListN.{length, take, drop}
use lib.Seq.{take_at}
use Rattle.laws.proofs.Choices.{not_below}
use Rattle.meaning.specs.Refusals.{granted, kept}
use Rattle.meaning.specs.Hexadecimal.{bytes_of, in_capitals}
use Rattle.meaning.specs.Frames.{all_signed, Version, version1, version2, line_of, write_rules, Framed, Write, is_sparse, weight_in, top_in, places_in, digits_in, stated, unreadable, read_rules, Parsed, Read}
use Rattle.forms.proofs.Refusals.{first_only, clear}
use Rattle.layout.specs.Wholes.{WholeFrame}
use Rattle.layout.proofs.Bytes.{digits_places}
use Rattle.layout.proofs.Frames.{none_good, sparse_frame, plain_frame, Back, written_read, canonical}

-- ---- determined: the answer and the whole of the buffer
made_framed : (r n : ℕ) → Framed
made_framed r n = record { refusal = r; length = n }

pub write_determined : (v : Version) (ds : List ℤ) (out₀ : List ℕ) (a b : Framed) (out out' : List ℕ) → Write v ds out₀ a out → Write v ds out₀ b out' → (a ≡ b) × (out ≡ out')
unfolding made_framed
write_determined v ds out₀ a b out out' K L =
    let line = line_of v ds in
    let r = (first_only (write_rules v ds (length out₀)) K.first L.first).0 in
    let n = K.length_is ∙ ap (λ x. granted x (length line)) r ∙ sym L.length_is in
    let same : made_framed a.refusal a.length ≡ made_framed b.refusal b.length = cc in
    (same, K.out_is ∙ ap (λ x. kept x (line ++ drop (length line) out₀) out₀) r ∙ sym L.out_is)

made_parsed : (r s k t n : ℕ) → Parsed
made_parsed r s k t n = record { refusal = r; stated = s; weight = k; top = t; places = n }

pub read_determined : (line : List ℕ) (digits₀ : List ℤ) (a b : Parsed) (digits digits' : List ℤ) → Read line digits₀ a digits → Read line digits₀ b digits' → (a ≡ b) × (digits ≡ digits')
unfolding made_parsed
read_determined line digits₀ a b digits digits' K L =
    let bs = bytes_of line in
    let r = (first_only (read_rules line (length digits₀)) K.first L.first).0 in
    let s = K.stated_is ∙ ap (λ x. granted x (stated line)) r ∙ sym L.stated_is in
    let k = K.weight_is ∙ ap (λ x. granted x (weight_in bs)) r ∙ sym L.weight_is in
    let t = K.top_is ∙ ap (λ x. granted x (top_in bs)) r ∙ sym L.top_is in
    let n = K.places_are ∙ ap (λ x. granted x (places_in bs)) r ∙ sym L.places_are in
    let same : made_parsed a.refusal a.stated a.weight a.top a.places ≡ made_parsed b.refusal b.stated b.weight b.top b.places = cc in
    (same, K.digits_are ∙ ap (λ x. kept x (digits_in bs ++ drop (places_in bs) digits₀) digits₀) r ∙ sym L.digits_are)

-- ---- writing, then reading, gives the string back: any string of signed bytes, in either version
pub read_back : (v : Version) (ds : List ℤ) → all_signed ds ≡ true → (out₀ : List ℕ) (w : Framed) (out : List ℕ) → Write v ds out₀ w out → w.refusal ≡ 0
    → (digits₀ : List ℤ) → length ds ≤ length digits₀ → (a : Parsed) (digits : List ℤ) → Read (take w.length out) digits₀ a digits → Back ds digits₀ a digits
read_back v ds all out₀ w out K z digits₀ room a digits R =
    let line = line_of v ds in
    let (few, _) = clear (write_rules v ds (length out₀)) tt w.refusal 0 K.first z in
    let n = K.length_is ∙ ap (λ x. granted x (length line)) z in
    let front : take w.length out ≡ line =
    ap (take w.length) (K.out_is ∙ ap (λ x. kept x (line ++ drop (length line) out₀) out₀) z) ∙ take_at line (drop (length line) out₀) w.length (sym n) in
    written_read v ds all (not_below few) room (subst (λ l. Read l digits₀ a digits) front R)

-- ---- reading, then writing
-- a line of a version: one of version 2 opens with A2, and one of version 1 does not, and gives no number
abbrev pub OfVersion : Version → List ℕ → Type 0
OfVersion version1 line = (is_sparse (bytes_of line) ≡ false) × (stated line ≡ 0)
OfVersion version2 line = is_sparse (bytes_of line) ≡ true

whole : (v : Version) (line : List ℕ) → unreadable line ≡ false → OfVersion v line → WholeFrame v line
whole version1 line u (s, z) = plain_frame line u s z
whole version2 line u s = sparse_frame line u s

module _ (v : Version) (line : List ℕ) (digits₀ : List ℤ) (a : Parsed) (digits : List ℤ) (K : Read line digits₀ a digits) (z : a.refusal ≡ 0) where
  -- the digits that are read stand at the front of the buffer
  read_digits : take a.places digits ≡ digits_in (bytes_of line)
  read_digits =
      let bs = bytes_of line in
      let n = K.places_are ∙ ap (λ x. granted x (places_in bs)) z in
      ap (take a.places) (K.digits_are ∙ ap (λ x. kept x (digits_in bs ++ drop (places_in bs) digits₀) digits₀) z) ∙ take_at (digits_in bs) (drop (places_in bs) digits₀) a.places (digits_places bs ∙ sym n)

  -- the line is, in capitals, the one that is written for them
  pub line_canonical : OfVersion v line → in_capitals line ≡ line_of v (take a.places digits)
  line_canonical o =
      let g = none_good line (length digits₀) a.refusal K.first z in
      canonical v line (whole v line g.readable o) g.fit ∙ ap (line_of v) (sym read_digits)

-- so two that are read to the same digits are the same but for the case of letters
pub same_lines : (v : Version) (line line' : List ℕ) → OfVersion v line → OfVersion v line' → (digits₀ digits₀' : List ℤ) (a a' : Parsed) (digits digits' : List ℤ)
    → Read line digits₀ a digits → Read line' digits₀' a' digits' → a.refusal ≡ 0 → a'.refusal ≡ 0 → take a.places digits ≡ take a'.places digits' → in_capitals line ≡ in_capitals line'
same_lines v line line' o o' digits₀ digits₀' a a' digits digits' K K' z z' e =
    line_canonical v line digits₀ a digits K z o ∙ ap (line_of v) e ∙ sym (line_canonical v line' digits₀' a' digits' K' z' o')

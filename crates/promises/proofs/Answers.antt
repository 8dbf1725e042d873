-- What the programs answer is read back: an accepted line's answer, without its line feed, to the string of the form that was asked for, in either version, and a refused line's to its number.
-- Assumes nothing.
use mathlib.Core.Path.{◌≡◌, refl, sym, ap, subst, ◌∙◌}
use mathlib.Core.Logic.{◌≢◌, ◌⊎◌, inl, inr, ⊎_elim}
use mathlib.Core.Bool.{Bool, true, false, not, ◌&&◌}
use mathlib.Core.List.{List, [], ◌∷◌}
use Prim.Native.Nat.{ℕ, zero, suc, ◌+◌, ◌-◌, ◌^◌, ◌%◌, ◌<◌, ◌≤◌}
use native.Mathlib.Decide.{ℕ_discrete}
use native.Mathlib.Omega.{arith}
use lib.Dec.{T, leb, ltb, eqb, eqb→eq, leb→le, ltb→lt}
use lib.IntN.{ℤ, pos, negsuc}
use lib.ListN.{length, take, length-append}
use lib.Pow.{pow_mono}
use lib.Seq.{take_at, get_or-drop}
use borrow.Author.Tests.{lt-ltb}
use Rattle.laws.proofs.Choices.{and_both, or_either, not_below}
use Rattle.meaning.specs.Scalars.{highest_first, number, bit_count}
use Rattle.meaning.specs.Digits.{least_width, most_width, most_places, largest, in_set, all_in}
use Rattle.meaning.specs.Forms.{Form}
use Rattle.meaning.specs.Refusals.{Rule, plain, Fails, First, granted}
use Rattle.meaning.specs.Recoding.{mark_words}
use Rattle.meaning.specs.Whole.{whole_rules}
use Rattle.meaning.specs.Lines.{line_feed}
use Rattle.meaning.specs.Hexadecimal.{nibble, all_hex, in_pairs, bytes_of, written}
use Rattle.meaning.specs.Frames.{signed, all_signed, Version, line_of, stated, read_rules, Parsed, Read}
use Rattle.meaning.specs.Requests.{malformed, form_of, width_of, scalar_of, line_rules, Answer}
use Rattle.forms.proofs.Refusals.{first_only, Clear, clear}
use Rattle.forms.proofs.Made.{least_between}
use Rattle.forms.proofs.Forms.{form_length, form_digits, form_whole}
use Rattle.scalar.proofs.Bytes.{Bytes, number_lt}
use Rattle.layout.proofs.Frames.{good_none, stated_bare, Back, written_read}
use Rattle.requests.proofs.Requests.{frame_hex}

-- ---- a string of a width's digits is one of signed bytes
one_signed : (m : ℕ) (d : ℤ) → m ≤ 127 → T (in_set m d) → signed d ≡ true
unfolding in_set signed
one_signed m (pos n) h t = lt-ltb n 128 (⊎_elim (λ z. omega (arith, eqb→eq n 0 z)) (λ o. omega (arith, leb→le n m (and_both (eqb (n % 2) 1) (leb n m) o).1)) (or_either (eqb n 0) (eqb (n % 2) 1 && leb n m) t))
one_signed m (negsuc n) h t = lt-ltb n 128 (⊎_elim (λ z. omega (arith, eqb→eq (suc n) 0 z)) (λ o. omega (arith, leb→le (suc n) m (and_both (eqb (suc n % 2) 1) (leb (suc n) m) o).1)) (or_either (eqb (suc n) 0) (eqb (suc n % 2) 1 && leb (suc n) m) t))

all_signed_is : (m : ℕ) (ds : List ℤ) → m ≤ 127 → T (all_in m ds) → all_signed ds ≡ true
unfolding all_in all_signed
all_signed_is m [] h t = refl
all_signed_is m (d ∷ ds) h t = let (a, b) = and_both (in_set m d) (all_in m ds) t in rw (one_signed m d h a, all_signed_is m ds h b)

-- ---- the bytes of a line
bytes_below : (line : List ℕ) → T (all_hex line) → Bytes (bytes_of line)
unfolding bytes_of all_hex
bytes_below [] t i = omega arith
bytes_below (a ∷ []) t i = omega arith
bytes_below (a ∷ b ∷ cs) t zero =
    let (x, u) = and_both (ltb (nibble a) 16) (ltb (nibble b) 16 && all_hex cs) t in
    omega (arith, ltb→lt (nibble a) 16 x, ltb→lt (nibble b) 16 (and_both (ltb (nibble b) 16) (all_hex cs) u).0)
bytes_below (a ∷ b ∷ cs) t (suc i) =
    let (x, u) = and_both (ltb (nibble a) 16) (ltb (nibble b) 16 && all_hex cs) t in
    bytes_below cs (and_both (ltb (nibble b) 16) (all_hex cs) u).1 i

-- ---- an accepted line
denied : (b : Bool) → (T b → ⊥) → T (not b)
denied true n = absurd (n tt)
denied false n = tt

module _ (v : Version) (line out : List ℕ) (A : Answer v line out) (z : A.refusal ≡ 0) where
  abbrev scalar : List ℕ
  scalar = scalar_of line

  abbrev rules : List Rule
  rules = whole_rules (form_of line) (width_of line) scalar (bit_count scalar + 1) mark_words

  -- no rule applies to it
  none : T (not (malformed line)) × Clear rules
  none = go A.first
    where
      go : First (line_rules line) A.refusal 0 → T (not (malformed line)) × Clear rules
      go (inl (e, _)) = absurd (omega arith)
      go (inr (n, f)) = (denied (malformed line) n, clear rules tt A.refusal 0 f z)

  wide : (2 ≤ width_of line) × (width_of line ≤ 8)
  wide = let (_, (_, (w, _))) = none in (not_below (λ l. w (inl (inl l))), not_below (λ l. w (inl (inr l))))

  -- the width of form 1 is 2
  mof_width : form_of line ≡ 1 → width_of line ≡ 2
  mof_width e = let (_, (_, (w, _))) = none in go w (ℕ_discrete (width_of line) 2)
    where
      go : Fails (plain 2 (((width_of line < least_width) ⊎ (most_width < width_of line)) ⊎ ((form_of line ≡ 1) × (width_of line ≢ 2)))) → Dec (width_of line ≡ 2) → width_of line ≡ 2
      go w (yes q) = q
      go w (no q) = absurd (w (inr (e, q)))

  short : length scalar ≤ 66
  short = let (_, (_, (_, (l, _)))) = none in not_below l

  small : number highest_first scalar < 2 ^ bit_count scalar
  small = number_lt highest_first scalar (λ i. rw (get_or-drop 3 (bytes_of line) i 0) (bytes_below line (frame_hex line none.0) (3 + i)))

  largest_most : largest (width_of line) ≤ 127
  largest_most =
      let l : width_of line - 1 ≤ 7 = omega (arith, wide.1) in
      let p : 2 ^ (width_of line - 1) ≤ 2 ^ 7 = pow_mono l in
      omega arith

  -- its answer without the line feed is read to the string of the form
  pub answer_read : {digits₀ digits : List ℤ} {a : Parsed} → most_places ≤ length digits₀ → Read (take (length out - 1) out) digits₀ a digits
      → (ds : List ℤ) × Form (form_of line) (width_of line) (number highest_first scalar) (bit_count scalar) ds × Back ds digits₀ a digits
  answer_read {digits₀} {digits} {a} room R =
      let (ds, f, e) = A.accepted z in
      let w = width_of line in
      let set = least_between w wide.0 in
      let g = (form_whole w (number highest_first scalar) (bit_count scalar) wide.0 (form_of line) ds).1 f in
      let n = form_length w (largest w) (number highest_first scalar) (bit_count scalar) set small (form_of line) ds g in
      let few : length ds ≤ most_places = omega (arith, n, short) in
      let all = all_signed_is (largest w) ds largest_most (form_digits w (largest w) (number highest_first scalar) (bit_count scalar) set small (form_of line) ds g mof_width) in
      let text = line_of v ds in
      let count : length out ≡ length text + 1 = ap length e ∙ length-append text (line_feed ∷ []) in
      let front : take (length out - 1) out ≡ text = ap (take (length out - 1)) e ∙ take_at text (line_feed ∷ []) (length out - 1) (omega arith) in
      (ds, f, written_read v ds all few (omega arith) (subst (λ l. Read l digits₀ a digits) front R))

-- ---- a refused line
-- the line of a number is read to it
stated_read : (text : List ℕ) (r : ℕ) → stated text ≡ r → r ≢ 0 → {digits₀ digits : List ℤ} {a : Parsed} → Read text digits₀ a digits → (a.refusal ≡ 0) × (a.stated ≡ r)
stated_read text r e n {digits₀} {digits} {a} R =
    let B = stated_bare text (λ q. n (sym e ∙ q)) in
    let z = (first_only (read_rules text (length digits₀)) R.first (good_none text (length digits₀) (B.good (length digits₀)))).0 in
    (z, R.stated_is ∙ ap (λ x. granted x (stated text)) z ∙ e)

-- each number that a line can be refused by is one that is read
number_stated : (line : List ℕ) (r : ℕ) → First (line_rules line) r 0 → r ≢ 0 → stated (written (r ∷ [])) ≡ r
unfolding written stated in_pairs all_hex bytes_of nibble
number_stated line r (inl (e, _)) n = rw e
number_stated line r (inr (_, inl (e, _))) n = rw e
number_stated line r (inr (_, inr (_, inl (e, _)))) n = rw e
number_stated line r (inr (_, inr (_, inr (_, inl (e, _))))) n = rw e
number_stated line r (inr (_, inr (_, inr (_, inr (_, inl (e, _)))))) n = rw e
number_stated line r (inr (_, inr (_, inr (_, inr (_, inr (_, inl (e, _))))))) n = rw e
number_stated line r (inr (_, inr (_, inr (_, inr (_, inr (_, inr (_, (z, _)))))))) n = absurd (n z)

pub refusal_read : (v : Version) (line out : List ℕ) (A : Answer v line out) → A.refusal ≢ 0 → {digits₀ digits : List ℤ} {a : Parsed} → Read (take (length out - 1) out) digits₀ a digits
    → (a.refusal ≡ 0) × (a.stated ≡ A.refusal)
refusal_read v line out A n {digits₀} {digits} {a} R =
    let text = written (A.refusal ∷ []) in
    let e = A.refused n in
    let count : length out ≡ length text + 1 = ap length e ∙ length-append text (line_feed ∷ []) in
    let front : take (length out - 1) out ≡ text = ap (take (length out - 1)) e ∙ take_at text (line_feed ∷ []) (length out - 1) (omega arith) in
    stated_read text A.refusal (number_stated line A.refusal A.first n) n (subst (λ l. Read l digits₀ a digits) front R)

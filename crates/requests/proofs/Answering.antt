-- The answer to a line: its rules where the line is a frame and enough is lent, and the lines written for a string and for a refusal. Assumes nothing.
use mathlib.Core.Path.{◌≡◌, refl, sym, ap, subst, ◌∙◌}
use mathlib.Core.Logic.{◌≢◌, inl, inr}
use mathlib.Core.Bool.{not}
use mathlib.Core.List.{List, [], ◌∷◌, ◌++◌}
use Prim.Native.Nat.{ℕ, ◌+◌, ◌-◌, ◌/◌, ◌<◌, ◌≤◌}
use native.Mathlib.Omega.{arith}
use lib.Dec.{T, T_not}
use lib.IntN.{ℤ}
use lib.ListN.{length, get_or, take, drop, length-append, length-drop, get_or-append}
use lib.Seq.{sets, take_at, drop-append-le, drop_at}
use Rattle.meaning.specs.Scalars.{Order, highest_first, number, bit_count, most_bytes}
use Rattle.meaning.specs.Digits.{most_places, Tally}
use Rattle.meaning.specs.Forms.{Form}
use Rattle.meaning.specs.Refusals.{First}
use Rattle.meaning.specs.Recoding.{mark_words}
use Rattle.meaning.specs.Whole.{whole_rules, RecodeWhole}
use Rattle.meaning.specs.Lines.{line_feed}
use Rattle.meaning.specs.Hexadecimal.{written, bytes_of}
use Rattle.meaning.specs.Frames.{Version, version1, version2, line_of}
use Rattle.meaning.specs.Requests.{malformed, form_of, width_of, scalar_of, line_rules, Answer}
use Rattle.forms.proofs.Refusals.{clear}
use Rattle.forms.proofs.Strings.{weight_le}
use Rattle.layout.specs.Wholes.{line_length}
use Rattle.requests.specs.Writing.{Wrote}
use Rattle.requests.specs.Answered.{most_answer, Lent, Worked, Filled}
use Rattle.hexadecimal.proofs.Characters.{bytes_count}
use Rattle.laws.proofs.Choices.{not_below}
use Rattle.laws.proofs.Runs.{sets_front}

-- what stands at the front of lent memory after a line is written, and past it
wrote_front : {line out₀ out : List ℕ} {r : ℕ} → Wrote line out₀ r out → take r out ≡ line
wrote_front {line} {out₀} {out} {r} w = ap (take r) w.out_is ∙ take_at line (drop r out₀) r (sym w.count_is)

wrote_rest : {line out₀ out : List ℕ} {r : ℕ} → Wrote line out₀ r out → drop r out ≡ drop r out₀
wrote_rest {line} {out₀} {out} {r} w = ap (drop r) w.out_is ∙ drop_at line (drop r out₀) r (sym w.count_is)

-- and it stands within that memory
wrote_within : {line out₀ out : List ℕ} {r : ℕ} → Wrote line out₀ r out → r ≤ length out
wrote_within {line} {out₀} {out} {r} w = omega (arith, w.count_is, simp length-append at (ap length w.out_is))

-- ---- the answer
module _ (v : Version) (line out₀ out : List ℕ) (r : ℕ) where
  -- a refusal
  answer_refused : (n : ℕ) → n ≢ 0 → First (line_rules line) n 0 → Wrote (written (n ∷ []) ++ (line_feed ∷ [])) out₀ r out → Answer v line (take r out)
  answer_refused n h f w = record { refusal = n; first = f; accepted = λ e. absurd (h e); refused = λ _. wrote_front w }

  -- a string
  answer_accepted : (ds : List ℤ) → First (line_rules line) 0 0 → Form (form_of line) (width_of line) (number highest_first (scalar_of line)) (bit_count (scalar_of line)) ds
      → Wrote (line_of v ds ++ (line_feed ∷ [])) out₀ r out → Answer v line (take r out)
  answer_accepted ds f form w = record { refusal = 0; first = f; accepted = λ _. (ds, form, wrote_front w); refused = λ n. absurd (n refl) }

-- a recoding that is lent enough for every scalar refuses what a line's rules refuse
line_first : (line : List ℕ) → T (not (malformed line)) → (places words r p : ℕ) → most_places ≤ places → mark_words ≤ words
    → First (whole_rules (form_of line) (width_of line) (scalar_of line) places words) r p → First (line_rules line) r 0
line_first line frame places words r p hp hw f = inr (T_not (malformed line) frame, go f)
  where
    go : First (whole_rules (form_of line) (width_of line) (scalar_of line) places words) r p
        → First (whole_rules (form_of line) (width_of line) (scalar_of line) (bit_count (scalar_of line) + 1) mark_words) r 0
    go (inl (e, c)) = inl (e, (c.0, refl))
    go (inr (n1, inl (e, c))) = inr (n1, inl (e, (c.0, refl)))
    go (inr (n1, inr (n2, inl (e, c)))) = inr (n1, inr (n2, inl (e, (c.0, refl))))
    go (inr (n1, inr (n2, inr (n3, inl (e, c))))) = absurd (n3 (omega (arith, c.0)))
    go (inr (n1, inr (n2, inr (n3, inr (n4, inl (e, c)))))) = absurd (omega (arith, c.0))
    go (inr (n1, inr (n2, inr (n3, inr (n4, inr (n5, d)))))) = inr (n1, inr (n2, inr (n3, inr ((λ h. omega arith), inr ((λ h. omega arith), (d.0, refl))))))

-- ---- the answer's length
-- a string's line fits where every answer does, with its line feed
pub answer_most : (v : Version) (ds : List ℤ) → length ds ≤ most_places → line_length v ds < most_answer v
answer_most version1 ds h = omega arith
answer_most version2 ds h = omega (arith, weight_le ds)

-- ---- the work memory
-- the frame's bytes, read to its front
bytes_front : (line bytes₀ : List ℕ) → length line / 2 ≤ length bytes₀ → sets bytes₀ 0 (bytes_of line) ≡ bytes_of line ++ drop (length (bytes_of line)) bytes₀
bytes_front line bytes₀ h = sets_front bytes₀ (bytes_of line) (omega (arith, bytes_count line))

-- the part of it that is the scalar
scalar_part : (line bytes₀ : List ℕ) (n : ℕ) → length (bytes_of line) ≡ n → 3 ≤ n → take (n - 3) (drop 3 (bytes_of line ++ drop n bytes₀)) ≡ scalar_of line
scalar_part line bytes₀ n e h =
    ap (take (n - 3)) (drop-append-le 3 (bytes_of line) (drop n bytes₀) (omega arith))
    ∙ take_at (drop 3 (bytes_of line)) (drop n bytes₀) (n - 3) (omega (arith, length-drop 3 (bytes_of line)))

module _ (line bytes₀ : List ℕ) (least : 6 ≤ length line) (most : length line / 2 ≤ length bytes₀) {bytes : List ℕ} (read : bytes ≡ sets bytes₀ 0 (bytes_of line)) where
  front_is : bytes ≡ bytes_of line ++ drop (length (bytes_of line)) bytes₀
  front_is = read ∙ bytes_front line bytes₀ most

  -- a byte of the frame
  byte_at : (k : ℕ) → k < length line / 2 → get_or bytes k 0 ≡ get_or (bytes_of line) k 0
  byte_at k h =
      ap (λ l. get_or l k 0) front_is ∙ get_or-append (bytes_of line) (drop (length (bytes_of line)) bytes₀) 0 k (omega (arith, bytes_count line))

  scalar_is : take (length line / 2 - 3) (drop 3 bytes) ≡ scalar_of line
  scalar_is =
      ap (λ n. take (n - 3) (drop 3 bytes)) (sym (bytes_count line))
      ∙ ap (λ l. take (length (bytes_of line) - 3) (drop 3 l)) front_is
      ∙ scalar_part line bytes₀ (length (bytes_of line)) refl (omega (arith, bytes_count line))

  -- what recode leaves, given what was read
  pub worked : {digits₀ digits : List ℤ} {marks₀ marks : List ℕ} {a : Tally}
      → RecodeWhole (get_or bytes 0 0) (get_or bytes 1 0) highest_first (take (length line / 2 - 3) (drop 3 bytes)) digits₀ marks₀ a digits marks
      → Worked line bytes₀ digits₀ marks₀ bytes digits marks a
  worked R = record { bytes_are = front_is; recoded = rw (byte_at 0 (omega arith), byte_at 1 (omega arith), scalar_is) at R }

-- ---- where no rule applies
module _ (form w : ℕ) {o : Order} {s : List ℕ} {digits₀ digits : List ℤ} {marks₀ marks : List ℕ} {a : Tally} (R : RecodeWhole form w o s digits₀ marks₀ a digits marks) (none : a.refusal ≡ 0) where
  -- the scalar is not too long, and there is room for its digits
  pub room : (length s ≤ most_bytes) × (bit_count s + 1 ≤ length digits₀)
  room = let (_, (_, (l, (d, _)))) = clear (whole_rules form w s (length digits₀) (length marks₀)) tt a.refusal a.place R.first none in (not_below l, not_below d)

  -- the first places of the digits are the string that has the form
  pub string_is : length digits ≡ length digits₀ → take (bit_count s + 1) digits ≡ (R.accepted none).string
  string_is same =
      let A = R.accepted none in
      let n : length A.string ≡ bit_count s + 1 = omega (arith, room.1, length-drop (bit_count s + 1) digits₀, simp length-append at (ap length A.digits_are)) in
      ap (take (bit_count s + 1)) A.digits_are ∙ take_at A.string (drop (bit_count s + 1) digits₀) (bit_count s + 1) n

-- ---- the call
module _ (v : Version) (line : List ℕ) (bytes₀ bytes : List ℕ) (digits₀ digits : List ℤ) (marks₀ marks out₀ out : List ℕ) (r : ℕ)
    (frame : T (not (malformed line))) (lent : Lent v bytes₀ digits₀ marks₀ out₀) {a : Tally} (W : Worked line bytes₀ digits₀ marks₀ bytes digits marks a) where
  rules : First (line_rules line) a.refusal 0
  rules = line_first line frame (length digits₀) (length marks₀) a.refusal a.place lent.digits_fit lent.marks_fit W.recoded.first

  filled : {text : List ℕ} → Wrote text out₀ r out → Answer v line (take r out) → Filled v line bytes₀ digits₀ marks₀ out₀ r bytes digits marks out
  filled w x =
      record {
        within = wrote_within w;
        answer = x;
        rest = wrote_rest w;
        strange = λ t. absurd (T_not (malformed line) frame t);
        frame = λ _. (a, W);
      }

  pub filled_refused : a.refusal ≢ 0 → Wrote (written (a.refusal ∷ []) ++ (line_feed ∷ [])) out₀ r out → Filled v line bytes₀ digits₀ marks₀ out₀ r bytes digits marks out
  filled_refused h w = filled w (answer_refused v line out₀ out r a.refusal h rules w)

  pub filled_accepted : (none : a.refusal ≡ 0) → Wrote (line_of v (W.recoded.accepted none).string ++ (line_feed ∷ [])) out₀ r out
      → Filled v line bytes₀ digits₀ marks₀ out₀ r bytes digits marks out
  filled_accepted none w =
      let A = W.recoded.accepted none in
      filled w (answer_accepted v line out₀ out r A.string (subst (λ x. First (line_rules line) x 0) none rules) A.formed w)

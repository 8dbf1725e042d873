-- The promise of the line's answer: two answers to one line, in one version, are equal, so are two outputs for one input, and so is all that two calls leave in lent memory.
-- Assumes nothing.
use mathlib.Core.Path.{◌≡◌, refl, sym, ap, subst, ◌∙◌}
use mathlib.Core.Logic.{◌≢◌, inl, inr}
use mathlib.Core.Bool.{Bool, true, false, not}
use mathlib.Core.List.{List, [], ◌∷◌, ◌++◌}
use Prim.Native.Nat.{ℕ, ◌≤◌}
use native.Mathlib.Omega.{arith}
use native.Mathlib.Decide.{dec_le, ℕ_discrete}
use lib.Dec.{T}
use lib.IntN.{ℤ}
use lib.ListN.{length, take, drop, take-append-drop}
use lib.Seq.{length-take-le}
use Rattle.meaning.specs.Scalars.{highest_first, number, bit_count}
use Rattle.meaning.specs.Digits.{largest, most_places, Tally}
use Rattle.meaning.specs.Refusals.{First}
use Rattle.meaning.specs.Recoding.{mark_words}
use Rattle.meaning.specs.Lines.{line_feed, Each}
use Rattle.meaning.specs.Hexadecimal.{written}
use Rattle.meaning.specs.Frames.{Version, line_of}
use Rattle.meaning.specs.Requests.{malformed, form_of, width_of, scalar_of, line_rules, Answer, Answers}
use Rattle.forms.proofs.Refusals.{first_only}
use Rattle.forms.proofs.Made.{least_between}
use Rattle.forms.proofs.Forms.{form_same, form_whole}
use Rattle.laws.proofs.Choices.{not_below}
use Rattle.requests.specs.Answered.{most_frame, most_answer, Lent, Kept, Worked, Filled, Answered}
use Rattle.promises.proofs.Recode as Recoding
use Rattle.promises.proofs.Recode.{whole_determined}

-- ---- one line
-- a refused line is the same in both versions
pub refused_same : (v v' : Version) (line a b : List ℕ) (A : Answer v line a) → Answer v' line b → A.refusal ≢ 0 → a ≡ b
refused_same v v' line a b A B n =
    let same = (first_only (line_rules line) A.first B.first).0 in
    A.refused n ∙ ap (λ r. written (r ∷ []) ++ (line_feed ∷ [])) same ∙ sym (B.refused (λ e. n (same ∙ e)))

module _ (v : Version) (line : List ℕ) where
  -- an accepted line has a width of at least 2
  two : {r : ℕ} → First (line_rules line) r 0 → r ≡ 0 → 2 ≤ width_of line
  two (inl (e, h)) z = absurd (omega arith)
  two (inr (_, inl (e, h))) z = absurd (omega arith)
  two (inr (_, inr (_, inl (e, h)))) z = absurd (omega arith)
  two (inr (_, inr (_, inr (n, _)))) z = not_below (λ h. n (inl (inl h)))

  pub answer_determined : (a b : List ℕ) → Answer v line a → Answer v line b → a ≡ b
  answer_determined a b A B = go (ℕ_discrete A.refusal 0)
    where
      same : A.refusal ≡ B.refusal
      same = (first_only (line_rules line) A.first B.first).0

      go : Dec (A.refusal ≡ 0) → a ≡ b
      go (yes z) =
          let (ds, f, e) = A.accepted z in
          let (es, g, h) = B.accepted (sym same ∙ z) in
          let w = width_of line in
          let N = number highest_first (scalar_of line) in
          let n = bit_count (scalar_of line) in
          let wide = two A.first z in
          let d = form_same w (largest w) N n (least_between w wide) (form_of line) ds es ((form_whole w N n wide (form_of line) ds).1 f) ((form_whole w N n wide (form_of line) es).1 g) in
          e ∙ ap (λ x. line_of v x ++ (line_feed ∷ [])) d ∙ sym h
      go (no n) = refused_same v v line a b A B n

-- ---- a whole input
pub answers_determined : (v : Version) (ls : List (List ℕ)) (a b : List ℕ) → Answers v ls a → Answers v ls b → a ≡ b
unfolding Each
answers_determined v [] a b A B = A ∙ sym B
answers_determined v (l ∷ ls) a b (u, w, A, As, e) (x, y, B, Bs, f) =
    e ∙ ap (λ t. t ++ w) (answer_determined v l u x A B) ∙ ap (λ t. x ++ t) (answers_determined v ls w y As Bs) ∙ sym f

-- ---- a call
-- what it leaves: the length that it returns, and all memory that was lent
pub record Outcome : Type 0 where
  pub count : ℕ
  pub bytes : List ℕ
  pub digits : List ℤ
  pub marks : List ℕ
  pub out : List ℕ

-- outcomes are equal by their fields
same_outcome : (o o' : Outcome) → o.count ≡ o'.count → o.bytes ≡ o'.bytes → o.digits ≡ o'.digits → o.marks ≡ o'.marks → o.out ≡ o'.out → o ≡ o'
same_outcome o o' n b d m t =
    ap (λ x. record { count = x; bytes = o.bytes; digits = o.digits; marks = o.marks; out = o.out }) n
    ∙ ap (λ x. record { count = o'.count; bytes = x; digits = o.digits; marks = o.marks; out = o.out }) b
    ∙ ap (λ x. record { count = o'.count; bytes = o'.bytes; digits = x; marks = o.marks; out = o.out }) d
    ∙ ap (λ x. record { count = o'.count; bytes = o'.bytes; digits = o'.digits; marks = x; out = o.out }) m
    ∙ ap (λ x. record { count = o'.count; bytes = o'.bytes; digits = o'.digits; marks = o'.marks; out = x }) t

module _ (v : Version) (line bytes₀ : List ℕ) (digits₀ : List ℤ) (marks₀ out₀ : List ℕ) where
  -- the outcome satisfies the promise
  abbrev pub Keeps : Outcome → Type 0
  Keeps o = Answered v line bytes₀ digits₀ marks₀ out₀ o.count o.bytes o.digits o.marks o.out

  abbrev Fills : Outcome → Type 0
  Fills o = Filled v line bytes₀ digits₀ marks₀ out₀ o.count o.bytes o.digits o.marks o.out

  abbrev Works : Outcome → Type 0
  Works o = (a : Tally) × Worked line bytes₀ digits₀ marks₀ o.bytes o.digits o.marks a

  enough? : Dec (Lent v bytes₀ digits₀ marks₀ out₀)
  enough? = go (dec_le most_frame (length bytes₀)) (dec_le most_places (length digits₀)) (dec_le mark_words (length marks₀)) (dec_le (most_answer v) (length out₀))
    where
      go : Dec (most_frame ≤ length bytes₀) → Dec (most_places ≤ length digits₀) → Dec (mark_words ≤ length marks₀) → Dec (most_answer v ≤ length out₀) → Dec (Lent v bytes₀ digits₀ marks₀ out₀)
      go (yes a) (yes b) (yes c) (yes d) = yes (record { bytes_fit = a; digits_fit = b; marks_fit = c; answer_fits = d })
      go (no a) b c d = no (λ L. a L.bytes_fit)
      go (yes a) (no b) c d = no (λ L. b L.digits_fit)
      go (yes a) (yes b) (no c) d = no (λ L. c L.marks_fit)
      go (yes a) (yes b) (yes c) (no d) = no (λ L. d L.answer_fits)

  -- what is worked in is the same
  same_work : (o o' : Outcome) → Works o → Works o' → (o.bytes ≡ o'.bytes) × (o.digits ≡ o'.digits) × (o.marks ≡ o'.marks)
  same_work o o' (a, W) (a', W') =
      let e = whole_determined (form_of line) (width_of line) highest_first (scalar_of line) digits₀ marks₀
      (record { tally = a; digits = o.digits; marks = o.marks }) (record { tally = a'; digits = o'.digits; marks = o'.marks }) W.recoded W'.recoded in
      (W.bytes_are ∙ sym W'.bytes_are, ap (λ (x : Recoding.Outcome). x.digits) e, ap (λ (x : Recoding.Outcome). x.marks) e)

  same_kept : (o o' : Outcome) → Kept bytes₀ digits₀ marks₀ o.bytes o.digits o.marks → Kept bytes₀ digits₀ marks₀ o'.bytes o'.digits o'.marks → (o.bytes ≡ o'.bytes) × (o.digits ≡ o'.digits) × (o.marks ≡ o'.marks)
  same_kept o o' K K' = (K.bytes_are ∙ sym K'.bytes_are, K.digits_are ∙ sym K'.digits_are, K.marks_are ∙ sym K'.marks_are)

  same_memory : (b : Bool) → b ≡ malformed line → (o o' : Outcome) → Fills o → Fills o' → (o.bytes ≡ o'.bytes) × (o.digits ≡ o'.digits) × (o.marks ≡ o'.marks)
  same_memory true e o o' F F' = let t = subst T e tt in same_kept o o' (F.strange t) (F'.strange t)
  same_memory false e o o' F F' = let t = subst (λ b. T (not b)) e tt in same_work o o' (F.frame t) (F'.frame t)

  -- the answers are the same, so are their lengths, and so is what stands past them
  same_count : (o o' : Outcome) → Fills o → Fills o' → o.count ≡ o'.count
  same_count o o' F F' =
      sym (length-take-le o.count o.out F.within) ∙ ap length (answer_determined v line _ _ F.answer F'.answer) ∙ length-take-le o'.count o'.out F'.within

  same_out : (o o' : Outcome) → Fills o → Fills o' → o.out ≡ o'.out
  same_out o o' F F' =
      sym (take-append-drop o.count o.out)
      ∙ ap (λ x. x ++ drop o.count o.out) (answer_determined v line _ _ F.answer F'.answer)
      ∙ ap (λ x. take o'.count o'.out ++ x) (F.rest ∙ ap (λ n. drop n out₀) (same_count o o' F F') ∙ sym F'.rest)
      ∙ take-append-drop o'.count o'.out

  -- two outcomes that keep the promise are equal
  pub line_determined : (o o' : Outcome) → Keeps o → Keeps o' → o ≡ o'
  line_determined o o' K K' = go enough?
    where
      go : Dec (Lent v bytes₀ digits₀ marks₀ out₀) → o ≡ o'
      go (yes l) =
          let F = K.enough l in
          let F' = K'.enough l in
          let (b, d, m) = same_memory (malformed line) refl o o' F F' in
          same_outcome o o' (same_count o o' F F') b d m (same_out o o' F F')
      go (no l) =
          let U = K.short l in
          let U' = K'.short l in
          let (b, d, m) = same_kept o o' U.kept U'.kept in
          same_outcome o o' (U.none ∙ sym U'.none) b d m (U.out_is ∙ sym U'.out_is)

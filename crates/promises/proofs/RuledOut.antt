-- Calls that cannot keep their promise: refusing everything, one fixed string for all scalars, not writing at all, writing on a refusal, two refusals in the other
-- order, a scalar compared with a group's order in one word or by length alone, invented step counts, a cost without its doubling, a verdict that does not depend on the scalar, places read in any order, a weight left unread. Each is a theorem: a call with that behaviour that kept its promise at every input would give a
-- contradiction. Assumes nothing.
use mathlib.Core.Path.{◌≡◌, refl, sym, ap, ◌∙◌}
use mathlib.Core.Logic.{◌≢◌, ◌⊎◌, inl, inr, ⊎_elim}
use mathlib.Core.List.{List, [], ◌∷◌, ◌++◌}
use Prim.Native.Nat.{ℕ, zero, suc, ◌+◌, ◌%◌, ◌^◌, ◌≤◌, ◌<◌}
use native.Mathlib.Omega.{arith}
use lib.Dec.{lit<, lit≤}
use lib.IntN.{ℤ, pos, negsuc, nat_abs}
use lib.ListN.{length, get_or, take, replicate, get_or-eq_default}
use Rattle.meaning.specs.Scalars.{Order, highest_first, number, bit_count}
use Rattle.meaning.specs.Digits.{worth, weight, top, nonzero, in_set, all_in, listed, Tally, Apart}
use Rattle.meaning.specs.Refusals.{Rule, First}
use Rattle.meaning.specs.Sets.{Pair}
use Rattle.meaning.specs.Forms.{asked, Has}
use Rattle.meaning.specs.Recoding.{recode_rules, group_rules, below_rules}
use Rattle.meaning.specs.Checking.{check_rules, nonadjacent_rules}
use Rattle.meaning.specs.Walks.{doublings, additions}
use Rattle.meaning.specs.Taping.{Taped}
use Rattle.meaning.specs.Running.{run_rules, Run, Ran}
use Rattle.meaning.specs.Searching.{search_rules, Searched, Search}
use Rattle.meaning.specs.Hexadecimal.{nibble, all_hex, in_pairs, bytes_of, written}
use Rattle.meaning.specs.Frames.{digit_bytes, digit_of, entries_of, rising, digit_at, Version, version1, version2, line_of, write_rules, Framed, Write, is_sparse, places_in, digits_in, stated, lacking, unreadable, in_order, unfit, read_rules, Parsed, Read}
use Rattle.meaning.specs.Requests.{malformed, line_rules, Answer}
use Rattle.forms.specs.Fractional.{fractional_digit, fractional_next, fractional_from}
use Rattle.forms.proofs.Refusals.{first_only, first_at, first_none, kept_lent, granted_all}
use Rattle.forms.proofs.Made.{least_between, fractional_is}
use Rattle.scalar.proofs.Bytes.{Bytes, number_lt}
use Rattle.width.proofs.Widths.{set_fine, whole_pair}
use Rattle.recoder.proofs.Refusals.{is_form, is_width, is_set, admits}
use Rattle.promises.proofs.Recode as Recoding
use Rattle.promises.proofs.Recode.{recode_determined}
use Rattle.promises.proofs.Below as Below
use Rattle.promises.proofs.Tape as Taping
use Rattle.promises.proofs.Check as Checking
use Rattle.promises.proofs.Check.{Legal, check_yes, check_yes_only, nonadjacent_yes_only}
use Rattle.promises.proofs.Known.{Answered, allowed, answered, Written, taped, ran_to, ran, eleventh, twelfth}
use Rattle.promises.proofs.Cost.{run_costs}
use Rattle.promises.proofs.Demand3.{taped_additions, taped_doublings}
use Rattle.promises.proofs.Instances.{recode_kept_by, below_kept_by, check_kept_by, nonadjacent_kept_by, tape_kept_by, run_kept_by, write_kept_by, read_kept_by}

-- ---- recode
-- an outcome for every input, a scalar of bytes among it, which keeps the promise
pub record Recoder : Type 0 where
  pub call : (form w l : ℕ) (order : Order) (s : List ℕ) → Bytes s → (digits₀ : List ℤ) (marks₀ : List ℕ) → Recoding.Outcome
  pub keeps : (form w l : ℕ) (order : Order) (s : List ℕ) (b : Bytes s) (digits₀ : List ℤ) (marks₀ : List ℕ) → Recoding.Keeps form w l order s digits₀ marks₀ (call form w l order s b digits₀ marks₀)

-- there is one; and the real call is one, since what it leaves at any input is what this one leaves
pub recoder : Recoder
recoder = record { call = λ form w l order s b digits₀ marks₀. (recode_kept_by form w l order s b digits₀ marks₀).0; keeps = λ form w l order s b digits₀ marks₀. (recode_kept_by form w l order s b digits₀ marks₀).1 }

pub recode_real : (form w l : ℕ) (order : Order) (s : List ℕ) (b : Bytes s) (digits₀ : List ℤ) (marks₀ : List ℕ) (o : Recoding.Outcome) → Recoding.Keeps form w l order s digits₀ marks₀ o → o ≡ recoder.call form w l order s b digits₀ marks₀
recode_real form w l order s b digits₀ marks₀ o K = recode_determined form w l order s digits₀ marks₀ o _ K (recoder.keeps form w l order s b digits₀ marks₀)

-- buffers that are lent: nine zeros each
digits_lent : List ℤ
digits_lent = replicate 9 (pos 0)

marks_lent : List ℕ
marks_lent = replicate 9 0

-- lists of bytes: one byte, and zeros
one_byte : (x : ℕ) → x < 256 → Bytes (x ∷ [])
one_byte x h zero = h
one_byte x h (suc i) = lit< tt

zero_bytes : (n : ℕ) → Bytes (replicate n 0)
zero_bytes zero i = lit< tt
zero_bytes (suc n) zero = lit< tt
zero_bytes (suc n) (suc i) = zero_bytes n i

module _ (c : Recoder) where
  -- what it does with a byte as wNAF at width 2
  of_byte : (x : ℕ) → x < 256 → Recoding.Outcome
  of_byte x h = c.call 2 2 1 highest_first (x ∷ []) (one_byte x h) digits_lent marks_lent

  byte_answer : (x : ℕ) (h : x < 256) → Answered (x ∷ []) (fractional_from 2 1 9 (number highest_first (x ∷ []))) digits_lent marks_lent (of_byte x h)
  unfolding digits_lent marks_lent of_byte asked Has
  byte_answer x h =
      let small = number_lt highest_first (x ∷ []) (one_byte x h) in
      answered 2 2 1 highest_first (x ∷ []) (fractional_from 2 1 9 (number highest_first (x ∷ []))) (allowed 2 2 1 tt tt) (lit≤ tt) small (fractional_is 2 1 (number highest_first (x ∷ [])) 8 (least_between 2 (lit≤ tt)) small) digits_lent marks_lent (lit≤ tt) (lit≤ tt)
      (of_byte x h) (c.keeps 2 2 1 highest_first (x ∷ []) (one_byte x h) digits_lent marks_lent)

  -- it is accepted
  byte_accepted : (x : ℕ) (h : x < 256) → (of_byte x h).tally.refusal ≡ 0
  byte_accepted x h = ap (λ (t : Tally). t.refusal) (byte_answer x h).tally_is

  -- the lowest digit of the buffer afterwards
  lowest_digit : List ℤ → ℕ
  lowest_digit ds = nat_abs (get_or ds 0 (pos 0))

  -- 1 has the digit 1 at place 0, and 2 has 0 there
  one_digit : lowest_digit (of_byte 1 (lit< tt)).digits ≡ 1
  unfolding lowest_digit digits_lent number fractional_from fractional_digit fractional_next
  one_digit = ap lowest_digit (byte_answer 1 (lit< tt)).digits_are

  two_digit : lowest_digit (of_byte 2 (lit< tt)).digits ≡ 0
  unfolding lowest_digit digits_lent number fractional_from fractional_digit fractional_next
  two_digit = ap lowest_digit (byte_answer 2 (lit< tt)).digits_are

  -- refusing everything
  pub recode_not_refusing : ((form w l : ℕ) (order : Order) (s : List ℕ) (b : Bytes s) (digits₀ : List ℤ) (marks₀ : List ℕ) → (c.call form w l order s b digits₀ marks₀).tally.refusal ≢ 0) → ⊥
  unfolding of_byte
  recode_not_refusing r = r 2 2 1 highest_first (1 ∷ []) (one_byte 1 (lit< tt)) digits_lent marks_lent (byte_accepted 1 (lit< tt))

  -- one fixed string for all scalars, for each form, width and bit count
  pub recode_not_fixed : (fixed : (form w l n : ℕ) → List ℤ)
      → ((form w l : ℕ) (order : Order) (s : List ℕ) (b : Bytes s) (digits₀ : List ℤ) (marks₀ : List ℕ) → (c.call form w l order s b digits₀ marks₀).tally.refusal ≡ 0 → take (bit_count s + 1) (c.call form w l order s b digits₀ marks₀).digits ≡ fixed form w l (bit_count s)) → ⊥
  unfolding lowest_digit of_byte
  recode_not_fixed fixed r =
      let one = r 2 2 1 highest_first (1 ∷ []) (one_byte 1 (lit< tt)) digits_lent marks_lent (byte_accepted 1 (lit< tt)) in
      let two = r 2 2 1 highest_first (2 ∷ []) (one_byte 2 (lit< tt)) digits_lent marks_lent (byte_accepted 2 (lit< tt)) in
      let z : ◌≡◌ {A = ℕ} 1 0 = sym one_digit ∙ first_of (of_byte 1 (lit< tt)).digits ∙ ap lowest_digit (one ∙ sym two) ∙ sym (first_of (of_byte 2 (lit< tt)).digits) ∙ two_digit in
      omega arith
    where
      first_of : (ds : List ℤ) → lowest_digit ds ≡ lowest_digit (take 9 ds)
      first_of [] = refl
      first_of (d ∷ ds) = refl

  -- not writing at all
  pub recode_not_idle : ((form w l : ℕ) (order : Order) (s : List ℕ) (b : Bytes s) (digits₀ : List ℤ) (marks₀ : List ℕ) → (c.call form w l order s b digits₀ marks₀).digits ≡ digits₀) → ⊥
  unfolding lowest_digit digits_lent of_byte
  recode_not_idle r = let z : ◌≡◌ {A = ℕ} 0 1 = sym (ap lowest_digit (r 2 2 1 highest_first (1 ∷ []) (one_byte 1 (lit< tt)) digits_lent marks_lent)) ∙ one_digit in omega arith

  -- writing on a refusal
  pub recode_not_writing : (form w l : ℕ) (order : Order) (s : List ℕ) (b : Bytes s) (digits₀ : List ℤ) (marks₀ : List ℕ)
      → (c.call form w l order s b digits₀ marks₀).tally.refusal ≢ 0 → ((c.call form w l order s b digits₀ marks₀).digits ≢ digits₀) ⊎ ((c.call form w l order s b digits₀ marks₀).marks ≢ marks₀) → ⊥
  recode_not_writing form w l order s b digits₀ marks₀ n (inl h) = h ((c.keeps form w l order s b digits₀ marks₀).refused n).digits_are
  recode_not_writing form w l order s b digits₀ marks₀ n (inr h) = h ((c.keeps form w l order s b digits₀ marks₀).refused n).marks_are

  -- a long scalar refused before a bad width
  pub recode_not_swapped : ((form w l : ℕ) (order : Order) (s : List ℕ) (b : Bytes s) (digits₀ : List ℤ) (marks₀ : List ℕ) → 66 < length s → (c.call form w l order s b digits₀ marks₀).tally.refusal ≡ 3) → ⊥
  recode_not_swapped r =
      let s : List ℕ = replicate 67 0 in
      let K = c.keeps 2 9 1 highest_first s (zero_bytes 67) [] [] in
      let e = (first_only (recode_rules 2 9 1 s 0 0) K.first (first_at (recode_rules 2 9 1 s 0 0) 1 0 (⊎_elim (λ l. omega arith) (λ l. omega arith), (inl (inr (lit< tt)), refl)))).0 in
      let z : ◌≡◌ {A = ℕ} 3 2 = sym (r 2 9 1 highest_first s (zero_bytes 67) [] [] (lit< tt)) ∙ e in
      omega arith

-- ---- recode under a group's order
pub record Bounded : Type 0 where
  pub call : (form w l : ℕ) (order : Order) (s group : List ℕ) → Bytes s → (digits₀ : List ℤ) (marks₀ : List ℕ) → Recoding.Outcome
  pub keeps : (form w l : ℕ) (order : Order) (s group : List ℕ) (b : Bytes s) (digits₀ : List ℤ) (marks₀ : List ℕ) → Below.Keeps form w l order s group digits₀ marks₀ (call form w l order s group b digits₀ marks₀)

-- there is one
pub bounded : Bounded
bounded = record { call = λ form w l order s group b digits₀ marks₀. (below_kept_by form w l order s group b digits₀ marks₀).0; keeps = λ form w l order s group b digits₀ marks₀. (below_kept_by form w l order s group b digits₀ marks₀).1 }

-- a good order: some bytes, not too many, worth some number
good_order : (group : List ℕ) (N : ℕ) → number highest_first group ≡ suc N → 0 < length group → length group < 67 → ((length group ≡ 0) ⊎ (number highest_first group ≡ 0)) ⊎ (66 < length group) → ⊥
good_order group N e l m = ⊎_elim (⊎_elim (λ z. omega arith) (λ z. omega arith)) (λ h. omega arith)

-- one before noughts, as many as follow the highest byte
one_first : (n : ℕ) → Bytes (1 ∷ replicate n 0)
one_first n zero = lit< tt
one_first n (suc i) = zero_bytes n i

module _ (c : Bounded) where
  -- a scalar that is not under a good order is refused with 20, whatever is lent
  under_refused : (s group : List ℕ) (b : Bytes s) → length s < 67 → (((length group ≡ 0) ⊎ (number highest_first group ≡ 0)) ⊎ (66 < length group) → ⊥) → number highest_first group ≤ number highest_first s
      → (c.call 2 2 1 highest_first s group b [] []).tally.refusal ≡ 20
  under_refused s group b l good h =
      let A = allowed 2 2 1 tt tt in
      (first_only (below_rules 2 2 1 highest_first s group 0 0) (c.keeps 2 2 1 highest_first s group b [] []).first
      (first_at (below_rules 2 2 1 highest_first s group 0 0) 5 0 (is_form 2 2 1 A, (is_width 2 2 1 A, (is_set 2 2 1 A, ((λ m. omega arith), (good, (h, refl)))))))).0

  -- taking the order itself
  pub below_not_itself : ((form w l : ℕ) (order : Order) (s group : List ℕ) (b : Bytes s) (digits₀ : List ℤ) (marks₀ : List ℕ) → number order s ≡ number highest_first group → (c.call form w l order s group b digits₀ marks₀).tally.refusal ≢ 20) → ⊥
  unfolding number
  below_not_itself r = r 2 2 1 highest_first (1 ∷ []) (1 ∷ []) (one_byte 1 (lit< tt)) [] [] refl (under_refused (1 ∷ []) (1 ∷ []) (one_byte 1 (lit< tt)) (lit< tt) (good_order (1 ∷ []) 0 refl (lit< tt) (lit< tt)) (lit≤ tt))

  -- comparing what is left of the two numbers in a word of 64 bits
  pub below_not_wrapped : ((form w l : ℕ) (order : Order) (s group : List ℕ) (b : Bytes s) (digits₀ : List ℤ) (marks₀ : List ℕ) → number order s % 2 ^ 64 < number highest_first group % 2 ^ 64 → (c.call form w l order s group b digits₀ marks₀).tally.refusal ≢ 20) → ⊥
  unfolding number
  below_not_wrapped r =
      let s : List ℕ = 1 ∷ replicate 8 0 in
      r 2 2 1 highest_first s (1 ∷ []) (one_first 8) [] [] (lit< tt) (under_refused s (1 ∷ []) (one_first 8) (lit< tt) (good_order (1 ∷ []) 0 refl (lit< tt) (lit< tt)) (lit≤ tt))

  -- comparing lengths alone: a shorter scalar need not lie under the order
  pub below_not_shorter : ((form w l : ℕ) (order : Order) (s group : List ℕ) (b : Bytes s) (digits₀ : List ℤ) (marks₀ : List ℕ) → length s < length group → (c.call form w l order s group b digits₀ marks₀).tally.refusal ≢ 20) → ⊥
  unfolding number
  below_not_shorter r =
      r 2 2 1 highest_first (1 ∷ []) (0 ∷ 1 ∷ []) (one_byte 1 (lit< tt)) [] [] (lit< tt) (under_refused (1 ∷ []) (0 ∷ 1 ∷ []) (one_byte 1 (lit< tt)) (lit< tt) (good_order (0 ∷ 1 ∷ []) 0 refl (lit< tt) (lit< tt)) (lit≤ tt))

  -- nor is a longer one to be refused
  pub below_not_longer : ((form w l : ℕ) (order : Order) (s group : List ℕ) (b : Bytes s) (digits₀ : List ℤ) (marks₀ : List ℕ) → length group < length s → (c.call form w l order s group b digits₀ marks₀).tally.refusal ≢ 0) → ⊥
  unfolding number
  below_not_longer r =
      let s : List ℕ = 0 ∷ 0 ∷ [] in
      let ds : List ℤ = replicate 17 (pos 0) in
      let fine = admits 2 2 1 (allowed 2 2 1 tt tt) s 17 9 (group_rules highest_first s (1 ∷ [])) (good_order (1 ∷ []) 0 refl (lit< tt) (lit< tt), ((λ h. omega arith), tt)) (lit≤ tt) (lit≤ tt) (lit≤ tt) in
      r 2 2 1 highest_first s (1 ∷ []) (zero_bytes 2) ds (replicate 9 0) (lit< tt)
      (first_only (below_rules 2 2 1 highest_first s (1 ∷ []) 17 9) (c.keeps 2 2 1 highest_first s (1 ∷ []) (zero_bytes 2) ds (replicate 9 0)).first (first_none (below_rules 2 2 1 highest_first s (1 ∷ []) 17 9) fine)).0

-- ---- tape and run
pub record Taper : Type 0 where
  pub call : (w l : ℕ) (ds : List ℤ) (words₀ : List ℕ) → Taping.Outcome
  pub keeps : (w l : ℕ) (ds : List ℤ) (words₀ : List ℕ) → Taping.Keeps w l ds words₀ (call w l ds words₀)

-- there is one
pub taper : Taper
taper = record { call = λ w l ds words₀. (tape_kept_by w l ds words₀).0; keeps = λ w l ds words₀. (tape_kept_by w l ds words₀).1 }

-- a lent buffer of seven words, none of them a step
words_lent : List ℕ
words_lent = replicate 7 9

module _ (t : Taper) where
  -- what it does with the string of P2
  thirteen : Taping.Outcome
  thirteen = t.call 2 1 (pos 1 ∷ pos 0 ∷ negsuc 0 ∷ pos 0 ∷ pos 1 ∷ replicate 4 (pos 0)) words_lent

  thirteen_taped : Written (0x1000 ∷ 0 ∷ 0 ∷ 0x4000 ∷ 0 ∷ 0 ∷ 0x3000 ∷ []) 4 2 words_lent thirteen
  unfolding words_lent thirteen
  thirteen_taped = taped 2 1 _ _ 1000 7 91 4 2 (7 ∷ []) eleventh words_lent (lit≤ tt) _ (t.keeps 2 1 _ words_lent)

  -- refusing everything
  pub tape_not_refusing : ((w l : ℕ) (ds : List ℤ) (words₀ : List ℕ) → (t.call w l ds words₀).taped.refusal ≢ 0) → ⊥
  unfolding thirteen
  tape_not_refusing r = r 2 1 _ words_lent (ap (λ (x : Taped). x.refusal) thirteen_taped.taped_is)

  -- not writing at all
  pub tape_not_idle : ((w l : ℕ) (ds : List ℤ) (words₀ : List ℕ) → (t.call w l ds words₀).words ≡ words₀) → ⊥
  unfolding words_lent thirteen
  tape_not_idle r =
      let z : ◌≡◌ {A = ℕ} 9 0x1000 = ap (λ ws. get_or ws 0 0) (sym (r 2 1 _ words_lent) ∙ thirteen_taped.words_are) in
      omega arith

  -- writing on a refusal
  pub tape_not_writing : (w l : ℕ) (ds : List ℤ) (words₀ : List ℕ) → (t.call w l ds words₀).taped.refusal ≢ 0 → (t.call w l ds words₀).words ≢ words₀ → ⊥
  tape_not_writing w l ds words₀ n h = h ((t.keeps w l ds words₀).words_are ∙ kept_lent (t.call w l ds words₀).taped.refusal _ words₀ n)

  -- the load counted as an addition
  pub tape_not_counting_loads : ((w l : ℕ) (ds : List ℤ) (words₀ : List ℕ) → (t.call w l ds words₀).taped.refusal ≡ 0 → (t.call w l ds words₀).taped.additions ≡ weight ds) → ⊥
  unfolding weight nonzero thirteen
  tape_not_counting_loads r =
      let T = thirteen_taped.taped_is in
      let z : ◌≡◌ {A = ℕ} 2 3 = sym (ap (λ (x : Taped). x.additions) T) ∙ r 2 1 _ words_lent (ap (λ (x : Taped). x.refusal) T) in
      omega arith

  -- invented counts: at no accepted input is the report another than the counts of the words that are written
  pub tape_not_inventing : (w l : ℕ) (ds : List ℤ) (words₀ : List ℕ) → let o = t.call w l ds words₀ in
      o.taped.refusal ≡ 0 → (o.taped.doublings ≢ doublings (take o.taped.words o.words)) ⊎ (o.taped.additions ≢ additions (take o.taped.words o.words)) → ⊥
  tape_not_inventing w l ds words₀ z (inl n) = let (a, b) = taped_doublings w l (t.call w l ds words₀) (t.keeps w l ds words₀) z in n (a ∙ sym b)
  tape_not_inventing w l ds words₀ z (inr n) = let (a, b) = taped_additions w l (t.call w l ds words₀) (t.keeps w l ds words₀) z in n (a ∙ sym b)

pub record Runner : Type 0 where
  pub call : (w l : ℕ) (ws : List ℕ) (m g : ℕ) (multiples₀ : List ℕ) → Ran
  pub multiples : (w l : ℕ) (ws : List ℕ) (m g : ℕ) (multiples₀ : List ℕ) → List ℕ
  pub keeps : (w l : ℕ) (ws : List ℕ) (m g : ℕ) (multiples₀ : List ℕ) → Run w l ws m g multiples₀ (call w l ws m g multiples₀) (multiples w l ws m g multiples₀)

-- there is one
pub runner : Runner
runner =
    record {
      call = λ w l ws m g multiples₀. (run_kept_by w l ws m g multiples₀).0;
      multiples = λ w l ws m g multiples₀. (run_kept_by w l ws m g multiples₀).1;
      keeps = λ w l ws m g multiples₀. (run_kept_by w l ws m g multiples₀).2;
    }

module _ (c : Runner) where
  -- what it does with the tape of P11
  thirteen_ran : (c.call 2 1 (0x1000 ∷ 0 ∷ 0 ∷ 0x4000 ∷ 0 ∷ 0 ∷ 0x3000 ∷ []) 1000 7 (9 ∷ []) ≡ ran_to 1 91 4 2)
      × (c.multiples 2 1 (0x1000 ∷ 0 ∷ 0 ∷ 0x4000 ∷ 0 ∷ 0 ∷ 0x3000 ∷ []) 1000 7 (9 ∷ []) ≡ 7 ∷ [])
  thirteen_ran = ran 2 1 _ _ 1000 7 91 4 2 (7 ∷ []) eleventh (9 ∷ []) (lit≤ tt) _ _ (c.keeps 2 1 _ 1000 7 (9 ∷ []))

  -- refusing everything
  pub run_not_refusing : ((w l : ℕ) (ws : List ℕ) (m g : ℕ) (multiples₀ : List ℕ) → (c.call w l ws m g multiples₀).refusal ≢ 0) → ⊥
  run_not_refusing r = r 2 1 _ 1000 7 (9 ∷ []) (ap (λ (x : Ran). x.refusal) thirteen_ran.0)

  -- storing no multiples
  pub run_not_idle : ((w l : ℕ) (ws : List ℕ) (m g : ℕ) (multiples₀ : List ℕ) → c.multiples w l ws m g multiples₀ ≡ multiples₀) → ⊥
  run_not_idle r = let z : ◌≡◌ {A = ℕ} 9 7 = ap (λ ws. get_or ws 0 0) (sym (r 2 1 _ 1000 7 (9 ∷ [])) ∙ thirteen_ran.1) in omega arith

  -- storing multiples on a refusal
  pub run_not_storing : (w l : ℕ) (ws : List ℕ) (m g : ℕ) (multiples₀ : List ℕ) → (c.call w l ws m g multiples₀).refusal ≢ 0 → c.multiples w l ws m g multiples₀ ≢ multiples₀ → ⊥
  run_not_storing w l ws m g multiples₀ n h = h ((c.keeps w l ws m g multiples₀).multiples_are ∙ kept_lent (c.call w l ws m g multiples₀).refusal _ multiples₀ n)

  -- invented counts: at no accepted input is the report another than the counts of the tape's words
  pub run_not_inventing : (w l : ℕ) (ws : List ℕ) (m g : ℕ) (multiples₀ : List ℕ) → let r = c.call w l ws m g multiples₀ in
      r.refusal ≡ 0 → (r.doublings ≢ doublings ws) ⊎ (r.additions ≢ additions ws) → ⊥
  run_not_inventing w l ws m g multiples₀ z (inl n) = n ((c.keeps w l ws m g multiples₀).doublings_are ∙ granted_all _ (doublings ws) z)
  run_not_inventing w l ws m g multiples₀ z (inr n) = n ((c.keeps w l ws m g multiples₀).additions_are ∙ granted_all _ (additions ws) z)

  -- the doubling left out of the cost of the multiples
  pub run_not_short : ((w l : ℕ) (ws : List ℕ) (m g : ℕ) (multiples₀ : List ℕ) → (c.call w l ws m g multiples₀).cost.doublings ≡ 0) → ⊥
  run_not_short r =
      let (e, _) = ran 3 3 _ _ 10 9 8 4 1 (9 ∷ 7 ∷ []) twelfth (9 ∷ 9 ∷ []) (lit≤ tt) _ _ (c.keeps 3 3 _ 10 9 (9 ∷ 9 ∷ [])) in
      let z : ◌≡◌ {A = ℕ} 1 0 = sym ((run_costs 3 3 (c.call 3 3 _ 10 9 (9 ∷ 9 ∷ [])) (c.keeps 3 3 _ 10 9 (9 ∷ 9 ∷ [])) (ap (λ (x : Ran). x.refusal) e)).doubling_above (lit< tt)) ∙ r 3 3 _ 10 9 (9 ∷ 9 ∷ []) in
      omega arith

  -- the modulus looked at before the width
  pub run_not_swapped : ((w l : ℕ) (ws : List ℕ) (g : ℕ) (multiples₀ : List ℕ) → (c.call w l ws 0 g multiples₀).refusal ≡ 12) → ⊥
  run_not_swapped r =
      let e = (first_only (run_rules 9 1 [] 0 0) (c.keeps 9 1 [] 0 0 []).first (first_at (run_rules 9 1 [] 0 0) 0 0 (inr (lit< tt), refl))).0 in
      let z : ◌≡◌ {A = ℕ} 12 2 = sym (r 9 1 [] 0 []) ∙ e in
      omega arith

-- ---- the search
-- refusing everything
pub search_not_refusing : (call : (number w : ℕ) → Searched) → ((number w : ℕ) → Search number w (call number w)) → ((number w : ℕ) → (call number w).refusal ≢ 0) → ⊥
search_not_refusing call keeps r =
    r 0 2 (first_only (search_rules 0 2) (keeps 0 2).first (first_none (search_rules 0 2) ((λ h. h.0 refl), ((λ h. omega arith), tt)))).0

-- ---- the checks
-- the set of width 2
one_set : Pair 2 1
one_set = whole_pair (lit≤ tt, lit≤ tt)

-- the string 1 is worth the byte 1, and 2 it is not
one_legal : Legal 2 1 highest_first (1 ∷ []) (pos 1 ∷ [])
unfolding all_in in_set worth number
one_legal = record { pair = whole_pair (lit≤ tt, lit≤ tt); few = lit≤ tt; short = lit≤ tt; digits = tt; worth_is = refl }

one_apart : Apart 2 (pos 1 ∷ [])
one_apart = record { one_of = λ i j b m h. get_or-eq_default (pos 1 ∷ []) (pos 0) {n = j} (omega arith) }

not_two : Legal 2 1 highest_first (2 ∷ []) (pos 1 ∷ []) → ⊥
unfolding worth number
not_two L = let z : ◌≡◌ {A = ℕ} 1 2 = ap nat_abs L.worth_is in omega arith

-- a verdict for every input, which keeps the promise of a check by the given rules
pub record Checker (rules : (w l : ℕ) (order : Order) (s : List ℕ) (ds : List ℤ) → List Rule) : Type 0 where
  pub call : (w l : ℕ) (order : Order) (s : List ℕ) (ds : List ℤ) → Tally
  pub keeps : (w l : ℕ) (order : Order) (s : List ℕ) (ds : List ℤ) → Checking.Keeps (rules w l order s ds) ds (call w l order s ds)

-- there is one of either kind
pub checker : Checker check_rules
checker = record { call = λ w l order s ds. (check_kept_by w l order s ds).0; keeps = λ w l order s ds. (check_kept_by w l order s ds).1 }

pub nonadjacent_checker : Checker nonadjacent_rules
nonadjacent_checker = record { call = λ w l order s ds. (nonadjacent_kept_by w l order s ds).0; keeps = λ w l order s ds. (nonadjacent_kept_by w l order s ds).1 }

-- refusing everything
pub check_not_refusing : (c : Checker check_rules) → ((w l : ℕ) (order : Order) (s : List ℕ) (ds : List ℤ) → (c.call w l order s ds).refusal ≢ 0) → ⊥
check_not_refusing c r = r 2 1 highest_first (1 ∷ []) (pos 1 ∷ []) (ap (λ (v : Tally). v.refusal) (check_yes_only 2 1 highest_first (1 ∷ []) (pos 1 ∷ []) one_legal _ (c.keeps 2 1 highest_first (1 ∷ []) (pos 1 ∷ []))))

pub nonadjacent_not_refusing : (c : Checker nonadjacent_rules) → ((w l : ℕ) (order : Order) (s : List ℕ) (ds : List ℤ) → (c.call w l order s ds).refusal ≢ 0) → ⊥
nonadjacent_not_refusing c r =
    r 2 1 highest_first (1 ∷ []) (pos 1 ∷ []) (ap (λ (v : Tally). v.refusal) (nonadjacent_yes_only 2 1 highest_first (1 ∷ []) (pos 1 ∷ []) one_legal one_apart _ (c.keeps 2 1 highest_first (1 ∷ []) (pos 1 ∷ []))))

-- saying yes whatever the scalar is
pub check_not_blind : (c : Checker check_rules) → ((w l : ℕ) (order : Order) (s t : List ℕ) (ds : List ℤ) → length s ≡ length t → (c.call w l order s ds).refusal ≡ 0 → (c.call w l order t ds).refusal ≡ 0) → ⊥
check_not_blind c r =
    let one = ap (λ (v : Tally). v.refusal) (check_yes_only 2 1 highest_first (1 ∷ []) (pos 1 ∷ []) one_legal _ (c.keeps 2 1 highest_first (1 ∷ []) (pos 1 ∷ []))) in
    not_two (check_yes 2 1 highest_first (2 ∷ []) (pos 1 ∷ []) _ (c.keeps 2 1 highest_first (2 ∷ []) (pos 1 ∷ [])) (r 2 1 highest_first (1 ∷ []) (2 ∷ []) (pos 1 ∷ []) refl one))

-- the string's length looked at before the scalar's
pub check_not_swapped : (c : Checker check_rules) → ((w l : ℕ) (order : Order) (s : List ℕ) (ds : List ℤ) → 529 < length ds → (c.call w l order s ds).refusal ≡ 7) → ⊥
check_not_swapped c r =
    let s : List ℕ = replicate 67 0 in
    let ds : List ℤ = replicate 530 (pos 0) in
    let e = (first_only (check_rules 2 1 highest_first s ds) (c.keeps 2 1 highest_first s ds).first (first_at (check_rules 2 1 highest_first s ds) 2 0 ((set_fine one_set).0, ((set_fine one_set).1, (lit< tt, refl))))).0 in
    let z : ◌≡◌ {A = ℕ} 7 3 = sym (r 2 1 highest_first s ds (lit< tt)) ∙ e in
    omega arith

-- ---- the line
-- the frame 02020101: wNAF at width 2 of the byte 1
one_line : List ℕ
one_line = 48 ∷ 50 ∷ 48 ∷ 50 ∷ 48 ∷ 49 ∷ 48 ∷ 49 ∷ []

one_line_first : First (line_rules one_line) 0 0
unfolding one_line malformed bytes_of all_hex nibble number
one_line_first = let A = allowed 2 2 1 tt tt in first_none (line_rules one_line) ((λ h. h), (is_form 2 2 1 A, (is_width 2 2 1 A, ((λ h. omega arith), ((λ h. omega arith), ((λ h. omega arith), tt))))))

-- refusing everything: no answer begins as a frame of its version does
opens : (v : Version) (ds : List ℤ) (more : List ℕ) → take 2 (line_of v ds ++ more) ≡ take 2 (line_of v [])
unfolding written
opens version1 ds more = refl
opens version2 ds more = refl

pub line_not_refusing : (v : Version) (call : List ℕ → List ℕ) → ((line : List ℕ) → Answer v line (call line)) → ((line : List ℕ) → take 2 (call line) ≢ take 2 (line_of v [])) → ⊥
line_not_refusing v call keeps r =
    let A = keeps one_line in
    let (ds, f, e) = A.accepted (first_only (line_rules one_line) A.first one_line_first).0 in
    r one_line (ap (take 2) e ∙ opens v ds _)

-- ---- frames
-- an answer to every string, and to every line, that keeps the promise
pub record Writer : Type 0 where
  pub call : (v : Version) (ds : List ℤ) (out₀ : List ℕ) → Framed × List ℕ
  pub keeps : (v : Version) (ds : List ℤ) (out₀ : List ℕ) → Write v ds out₀ (call v ds out₀).0 (call v ds out₀).1

pub record LineReader : Type 0 where
  pub call : (line : List ℕ) (digits₀ : List ℤ) → Parsed × List ℤ
  pub keeps : (line : List ℕ) (digits₀ : List ℤ) → Read line digits₀ (call line digits₀).0 (call line digits₀).1

-- there are such
pub writer : Writer
writer = record { call = λ v ds out₀. (write_kept_by v ds out₀).0; keeps = λ v ds out₀. (write_kept_by v ds out₀).1 }

pub line_reader : LineReader
line_reader = record { call = λ line digits₀. (read_kept_by line digits₀).0; keeps = λ line digits₀. (read_kept_by line digits₀).1 }

-- a line of version 2 with the weight k, of the two digits 1 1, from the bytes of its entries; two places are lent
pub sparse_line : ℕ → List ℕ → List ℕ → List ℕ
sparse_line k e f = written (0xA2 ∷ 0 ∷ k ∷ 0 ∷ 2 ∷ 0 ∷ 2 ∷ (e ++ f))

pub low : List ℕ
low = 0 ∷ 0 ∷ 1 ∷ []

pub high : List ℕ
high = 0 ∷ 1 ∷ 1 ∷ []

pub two_lent : List ℤ
two_lent = replicate 2 (pos 0)

good_line : First (read_rules (sparse_line 2 low high) (length two_lent)) 0 0
unfolding sparse_line low high two_lent written bytes_of nibble all_hex in_pairs stated unreadable lacking is_sparse places_in unfit in_order rising entries_of digit_of digits_in digit_at listed weight top nonzero
good_line = first_none (read_rules (sparse_line 2 low high) 2) ((λ h. h), ((λ h. omega arith), ((λ h. h), ((λ h. omega arith), tt))))

falling_line : First (read_rules (sparse_line 2 high low) (length two_lent)) 21 0
unfolding sparse_line low high two_lent written bytes_of nibble all_hex in_pairs stated unreadable lacking is_sparse places_in unfit in_order rising entries_of digit_of digits_in digit_at listed weight top nonzero
falling_line = first_at (read_rules (sparse_line 2 high low) 2) 2 0 ((λ h. h), ((λ h. omega arith), (tt, refl)))

light_line : First (read_rules (sparse_line 1 low high) (length two_lent)) 21 0
unfolding sparse_line low high two_lent written bytes_of nibble all_hex in_pairs stated unreadable lacking is_sparse places_in unfit in_order rising entries_of digit_of digits_in digit_at listed weight top nonzero
light_line = first_at (read_rules (sparse_line 1 low high) 2) 2 0 ((λ h. h), ((λ h. omega arith), (tt, refl)))

module _ (c : LineReader) where
  pub reads : List ℕ → ℕ
  reads line = (c.call line two_lent).0.refusal

  reads_as : (line : List ℕ) (r : ℕ) → First (read_rules line (length two_lent)) r 0 → reads line ≡ r
  unfolding reads
  reads_as line r f = (first_only (read_rules line (length two_lent)) (c.keeps line two_lent).first f).0

  -- accepting places in any order: to change two entries for each other makes no difference
  pub read_not_any_order : ((e f : List ℕ) → reads (sparse_line 2 e f) ≡ reads (sparse_line 2 f e)) → ⊥
  read_not_any_order same =
      let z : ◌≡◌ {A = ℕ} 0 21 = sym (reads_as _ 0 good_line) ∙ same low high ∙ reads_as _ 21 falling_line in
      omega arith

  -- leaving the weight unread: any other makes no difference
  pub read_not_weightless : ((k k' : ℕ) → reads (sparse_line k low high) ≡ reads (sparse_line k' low high)) → ⊥
  read_not_weightless same =
      let z : ◌≡◌ {A = ℕ} 0 21 = sym (reads_as _ 0 good_line) ∙ same 2 1 ∙ reads_as _ 21 light_line in
      omega arith

  -- refusing everything
  pub read_not_refusing : ((line : List ℕ) (digits₀ : List ℤ) → (c.call line digits₀).0.refusal ≢ 0) → ⊥
  unfolding reads
  read_not_refusing r = r (sparse_line 2 low high) two_lent (reads_as _ 0 good_line)

-- refusing everything: the empty string has a line in each version
pub write_not_refusing : (c : Writer) → ((v : Version) (ds : List ℤ) (out₀ : List ℕ) → (c.call v ds out₀).0.refusal ≢ 0) → ⊥
unfolding written digit_bytes weight top
write_not_refusing c r =
    let rules = write_rules version1 [] 10 in
    r version1 [] (replicate 10 0) (first_only rules (c.keeps version1 [] (replicate 10 0)).first (first_none rules ((λ h. omega arith), ((λ h. omega arith), tt)))).0

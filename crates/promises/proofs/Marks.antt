-- The marks of an accepted recode, in the document's words: bit j mod 64 of word j / 64 is 1 exactly when place j is nonzero, and 0 for the places above n; and the
-- weight is the ones counted in the nine words. Assumes nothing.
use mathlib.Core.Path.{◌≡◌, sym, ap, ◌∙◌}
use mathlib.Core.Logic.{◌≢◌}
use mathlib.Core.List.{List, [], ◌∷◌, ◌++◌}
use Prim.Native.Nat.{ℕ, zero, suc, ◌+◌, ◌*◌, ◌/◌, ◌%◌, ◌^◌, ◌<◌, ◌≤◌}
use native.Mathlib.Omega.{arith}
use native.Mathlib.Nat.{zero-div}
use lib.IntN.{ℤ, pos}
use lib.ListN.{length, get_or, take, drop, length-take, get_or-append, get_or-eq_default}
use lib.Pow.{shr-shr}
use lib.Seq.{get_or-drop, take_at}
use Rattle.meaning.specs.Scalars.{Order, bit_count}
use Rattle.meaning.specs.Digits.{nonzero, weight}
use Rattle.meaning.specs.Recoding.{mark_words, marked, marks_of}
use Rattle.forms.proofs.Strings.{nonzero_le, nonzero_one, nonzero_none}
use Rattle.scalar.proofs.Bytes.{Bytes}
use Rattle.places.specs.Ones.{ones_of}
use Rattle.places.proofs.Marking.{marks_length, marks_at, marks_weight}
use Rattle.promises.proofs.Recode as Recoding
use Rattle.promises.proofs.Demand2.{recoded_string}
use Rattle.promises.proofs.EndToEnd.{string, recoded_legal}

-- bit b of a word of marks is the mark of its place b
marked_bit : (k : ℕ) (ds : List ℤ) (b : ℕ) → b < k → marked k ds / 2 ^ b % 2 ≡ nonzero (get_or ds b (pos 0))
unfolding marked nonzero
marked_bit zero ds b h = absurd (omega arith)
marked_bit (suc k) [] b h = ap (λ t. t % 2) (zero-div (2 ^ b))
marked_bit (suc k) (d ∷ ds) zero h = low (nonzero d) (marked k ds) (nonzero_le d)
  where
    low : (x m : ℕ) → x ≤ 1 → (x + 2 * m) / 2 ^ 0 % 2 ≡ x
    low x m h = omega arith
marked_bit (suc k) (d ∷ ds) (suc b) h =
    ap (λ t. (nonzero d + 2 * marked k ds) / 2 ^ t % 2) next ∙ ap (λ t. t % 2) (sym (shr-shr (nonzero d + 2 * marked k ds) 1 b)) ∙ ap (λ t. t / 2 ^ b % 2) (high (nonzero d) (marked k ds) (nonzero_le d)) ∙ marked_bit k ds b (omega arith)
  where
    next : suc b ≡ 1 + b
    next = omega arith

    high : (x m : ℕ) → x ≤ 1 → (x + 2 * m) / 2 ^ 1 ≡ m
    high x m h = omega arith

-- the mark of place j in a list of words
abbrev pub mark_at : List ℕ → ℕ → ℕ
mark_at marks j = get_or marks (j / 64) 0 / 2 ^ (j % 64) % 2

marks_bit : (ds : List ℤ) (rest : List ℕ) (j : ℕ) → j < 64 * mark_words → mark_at (marks_of ds ++ rest) j ≡ nonzero (get_or ds j (pos 0))
marks_bit ds rest j h =
    let q = j / 64 in
    let e : 64 * q + j % 64 ≡ j = omega arith in
    ap (λ t. t / 2 ^ (j % 64) % 2) (get_or-append (marks_of ds) rest 0 q (omega (arith, marks_length ds)) ∙ marks_at ds q (omega arith))
    ∙ marked_bit 64 (drop (64 * q) ds) (j % 64) (omega arith)
    ∙ ap nonzero (get_or-drop (64 * q) ds (j % 64) (pos 0) ∙ ap (λ t. get_or ds t (pos 0)) e)

module _ (form w l : ℕ) {order : Order} {s : List ℕ} {digits₀ : List ℤ} {marks₀ : List ℕ} (o : Recoding.Outcome) (K : Recoding.Keeps form w l order s digits₀ marks₀ o)
    (z : o.tally.refusal ≡ 0) (bytes : Bytes s) where
  abbrev ds : List ℤ
  ds = string form w l o K z bytes

  marks_are : o.marks ≡ marks_of ds ++ drop mark_words marks₀
  marks_are = (K.accepted z).marks_are ∙ ap (λ x. marks_of x ++ drop mark_words marks₀) (sym (recoded_string form w l o K z bytes))

  marked_as : (j : ℕ) → j < 64 * mark_words → mark_at o.marks j ≡ nonzero (get_or ds j (pos 0))
  marked_as j h = ap (λ x. mark_at x j) marks_are ∙ marks_bit ds (drop mark_words marks₀) j h

  -- bit j mod 64 of word j / 64 is 1 where place j is nonzero
  pub marks_set : (j : ℕ) → j < 64 * mark_words → get_or ds j (pos 0) ≢ pos 0 → mark_at o.marks j ≡ 1
  marks_set j h n = marked_as j h ∙ nonzero_one (get_or ds j (pos 0)) n

  -- and 0 where it is 0
  pub marks_clear : (j : ℕ) → j < 64 * mark_words → get_or ds j (pos 0) ≡ pos 0 → mark_at o.marks j ≡ 0
  marks_clear j h e = marked_as j h ∙ nonzero_none e

  short : length ds ≤ 529
  short = (recoded_legal form w l o K z bytes).short

  -- so for the places above n
  pub marks_above : (j : ℕ) → bit_count s < j → j < 64 * mark_words → mark_at o.marks j ≡ 0
  marks_above j l h = marks_clear j h (get_or-eq_default ds (pos 0) {n = j} (omega (arith, length-take (bit_count s + 1) o.digits)))

  -- the weight is the ones counted in the nine words
  pub marks_weigh : o.tally.weight ≡ ones_of (take mark_words o.marks)
  marks_weigh =
      (K.accepted z).weight_is ∙ ap weight (sym (recoded_string form w l o K z bytes)) ∙ sym (marks_weight ds (omega (arith, short)))
      ∙ ap ones_of (sym (ap (take mark_words) marks_are ∙ take_at (marks_of ds) (drop mark_words marks₀) mark_words (marks_length ds)))

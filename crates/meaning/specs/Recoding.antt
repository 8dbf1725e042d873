-- Recode: the n + 1 digits of a scalar in a form, nine words of marks, the weight and the top; and the same of a scalar that must lie below a group's order.
-- Assumes nothing.
use Rattle.std.specs.Prelude.{◌≡◌, ◌⊎◌, ◌≢◌, List, [], ◌∷◌, ◌++◌, ℕ, zero, suc, ◌+◌, ◌*◌, ◌<◌, ◌≤◌, ℤ, length, drop}
use Rattle.meaning.specs.Scalars.{Order, highest_first, number, bit_count, most_bytes}
use Rattle.meaning.specs.Digits.{least_width, most_width, largest, nonzero, weight, top, listed, Tally}
use Rattle.meaning.specs.Sets.{Pair}
use Rattle.meaning.specs.Forms.{Strings, FormIn, most_form}
use Rattle.meaning.specs.Refusals.{Rule, plain, First, long_scalar}

-- ---- marks
-- how many words of marks there are
abbrev pub mark_words : ℕ
mark_words = 9

-- the number whose bit j is set exactly when place j is nonzero, for the k lowest places of ds
unfoldable pub marked : ℕ → List ℤ → ℕ
marked zero ds = 0
marked (suc k) [] = 0
marked (suc k) (d ∷ ds) = nonzero d + 2 * marked k ds

-- nine 64-bit words: bit j mod 64 of word j / 64 is set exactly when place j is nonzero
unfoldable pub marks_of : List ℤ → List ℕ
marks_of ds = listed (λ q. marked 64 (drop (64 * q) ds)) 0 mark_words

-- ---- refusals
-- 1: form is not 1..5; 2: width outside 2..8, or not 2 with form 1
abbrev pub form_rules : (form w : ℕ) → List Rule
form_rules form w =
    plain 1 ((form < 1) ⊎ (most_form < form))
    ∷ plain 2 (((w < least_width) ⊎ (most_width < w)) ⊎ ((form ≡ 1) × (w ≢ 2)))
    ∷ []

-- 22: no set has this width and this largest digit, or it is not the whole width's where the form is not 2
abbrev pub set_for : (form w m : ℕ) → List Rule
set_for form w m = plain 22 ((Pair w m → ⊥) ⊎ ((form ≢ 2) × (m ≢ largest w))) ∷ []

-- after the form's, a call that takes a set has that rule; 3: scalar over 66 bytes; here a call may have more; 4: digit buffer under n + 1 places; 5: marks buffer under
-- 9 words
abbrev pub rules_with : (sets more : List Rule) (form w : ℕ) (s : List ℕ) (places words : ℕ) → List Rule
rules_with sets more form w s places words =
    form_rules form w ++ (sets ++ (long_scalar s ∷ (more ++ (plain 4 (places < bit_count s + 1) ∷ plain 5 (words < mark_words) ∷ []))))

-- the plain call has no others
abbrev pub recode_rules : (form w m : ℕ) (s : List ℕ) (places words : ℕ) → List Rule
recode_rules form w m s places words = rules_with (set_for form w m) [] form w s places words

-- the call that takes a group's order, highest byte first whatever the scalar's order of bytes, has two. 19: order empty, worth zero or over 66 bytes; 20: scalar not below the
-- order, as numbers
abbrev pub group_rules : Order → (s group : List ℕ) → List Rule
group_rules o s group =
    plain 19 (((length group ≡ 0) ⊎ (number highest_first group ≡ 0)) ⊎ (most_bytes < length group))
    ∷ plain 20 (number highest_first group ≤ number o s)
    ∷ []

abbrev pub below_rules : (form w m : ℕ) (o : Order) (s group : List ℕ) (places words : ℕ) → List Rule
below_rules form w m o s group places words = rules_with (set_for form w m) (group_rules o s group) form w s places words

-- ---- what the call returns and leaves
-- on acceptance: the digits of what the scalar's string is, and then what stood past them, the marks of those digits likewise, their weight and their top
pub record Recoded (S : Strings) (o : Order) (s : List ℕ) (digits₀ : List ℤ) (marks₀ : List ℕ) (a : Tally) (digits : List ℤ) (marks : List ℕ) : Type 0 where
  pub string : List ℤ
  pub formed : S (number o s) (bit_count s) string
  pub digits_are : digits ≡ string ++ drop (bit_count s + 1) digits₀
  pub marks_are : marks ≡ marks_of string ++ drop mark_words marks₀
  pub weight_is : a.weight ≡ weight string
  pub top_is : a.top ≡ top string

-- in a refusal: 0 in both fields, and both buffers as lent
pub record Unrecoded (digits₀ : List ℤ) (marks₀ : List ℕ) (a : Tally) (digits : List ℤ) (marks : List ℕ) : Type 0 where
  pub digits_are : digits ≡ digits₀
  pub marks_are : marks ≡ marks₀
  pub weight_is : a.weight ≡ 0
  pub top_is : a.top ≡ 0

-- a call by these rules, and the two buffers afterwards
pub record RecodeBy (rules : List Rule) (S : Strings) (o : Order) (s : List ℕ) (digits₀ : List ℤ) (marks₀ : List ℕ) (a : Tally) (digits : List ℤ) (marks : List ℕ) : Type 0 where
  pub first : First rules a.refusal a.place
  pub accepted : a.refusal ≡ 0 → Recoded S o s digits₀ marks₀ a digits marks
  pub refused : a.refusal ≢ 0 → Unrecoded digits₀ marks₀ a digits marks

-- the plain call
abbrev pub Recode : (form w m : ℕ) (o : Order) (s : List ℕ) (digits₀ : List ℤ) (marks₀ : List ℕ) (a : Tally) (digits : List ℤ) (marks : List ℕ) → Type 0
Recode form w m o s digits₀ marks₀ a digits marks = RecodeBy (recode_rules form w m s (length digits₀) (length marks₀)) (FormIn form w m) o s digits₀ marks₀ a digits marks

-- and the call that takes a group's order: the plain one with two rules more
abbrev pub RecodeBelow : (form w m : ℕ) (o : Order) (s group : List ℕ) (digits₀ : List ℤ) (marks₀ : List ℕ) (a : Tally) (digits : List ℤ) (marks : List ℕ) → Type 0
RecodeBelow form w m o s group digits₀ marks₀ a digits marks =
    RecodeBy (below_rules form w m o s group (length digits₀) (length marks₀)) (FormIn form w m) o s digits₀ marks₀ a digits marks

-- The calls at whole widths, by the width alone, as document 01 words them. In the set of D_w each call's promise is the one that stands here: that is a theorem for
-- each. The programs' frames have whole widths, and speak of these. Assumes nothing.
use Rattle.std.specs.Prelude.{List, [], ◌∷◌, ◌++◌, ℕ, ℤ, length}
use Rattle.meaning.specs.Scalars.{Order}
use Rattle.meaning.specs.Digits.{largest, entries, Tally}
use Rattle.meaning.specs.Forms.{Form}
use Rattle.meaning.specs.Refusals.{Rule, bad_width}
use Rattle.meaning.specs.Recoding.{rules_with, group_rules, RecodeBy}
use Rattle.meaning.specs.Checking.{worth_rules, spaced_rules, Check}
use Rattle.meaning.specs.Taping.{Taped, room_rules, TapeBy}
use Rattle.meaning.specs.Running.{Ran, step_rules, RunOver}

-- recode: 1, 2, 3, 4, 5
abbrev pub whole_rules : (form w : ℕ) (s : List ℕ) (places words : ℕ) → List Rule
whole_rules form w s places words = rules_with [] [] form w s places words

abbrev pub RecodeWhole : (form w : ℕ) (o : Order) (s : List ℕ) (digits₀ : List ℤ) (marks₀ : List ℕ) (a : Tally) (digits : List ℤ) (marks : List ℕ) → Type 0
RecodeWhole form w o s digits₀ marks₀ a digits marks = RecodeBy (whole_rules form w s (length digits₀) (length marks₀)) (Form form w) o s digits₀ marks₀ a digits marks

-- recode_below: 1, 2, 3, 19, 20, 4, 5
abbrev pub BelowWhole : (form w : ℕ) (o : Order) (s group : List ℕ) (digits₀ : List ℤ) (marks₀ : List ℕ) (a : Tally) (digits : List ℤ) (marks : List ℕ) → Type 0
BelowWhole form w o s group digits₀ marks₀ a digits marks =
    RecodeBy (rules_with [] (group_rules o s group) form w s (length digits₀) (length marks₀)) (Form form w) o s digits₀ marks₀ a digits marks

-- the checks: 2, 3, 7, 8, 9, and 10
abbrev pub CheckWhole : (w : ℕ) (o : Order) (s : List ℕ) (ds : List ℤ) (a : Tally) → Type 0
CheckWhole w o s ds a = Check (bad_width w ∷ worth_rules (largest w) o s ds) ds a

abbrev pub NonadjacentWhole : (w : ℕ) (o : Order) (s : List ℕ) (ds : List ℤ) (a : Tally) → Type 0
NonadjacentWhole w o s ds a = Check (bad_width w ∷ (worth_rules (largest w) o s ds ++ spaced_rules w ds)) ds a

-- tape: 2, 7, 8, 11
abbrev pub TapeWhole : (w : ℕ) (ds : List ℤ) (words₀ : List ℕ) (a : Taped) (words : List ℕ) → Type 0
TapeWhole w ds words₀ a words = TapeBy (bad_width w ∷ room_rules (largest w) ds (length words₀)) ds words₀ a words

-- run: 2, 12, 13, 14, 15
abbrev pub RunWhole : (w : ℕ) (ws : List ℕ) (m g : ℕ) (multiples₀ : List ℕ) (a : Ran) (multiples : List ℕ) → Type 0
RunWhole w ws m g multiples₀ a multiples = RunOver (bad_width w ∷ step_rules (entries (largest w)) ws m (length multiples₀)) (entries (largest w)) ws m g multiples₀ a multiples

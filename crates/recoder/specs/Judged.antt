-- What the judgement of a call says, by cases: the set, where no rule applies, or the number of the first that does. Assumes nothing.
use Rattle.std.specs.Prelude.{◌≡◌, ◌≢◌, ◌⊎◌, ⊤, List, [], ◌∷◌, ◌++◌, ℕ, ◌+◌, ◌<◌, ◌≤◌, length, Result, Ok, Err}
use Rattle.meaning.specs.Scalars.{Order, bit_count, most_bytes}
use Rattle.meaning.specs.Digits.{largest}
use Rattle.meaning.specs.Sets.{Pair}
use Rattle.meaning.specs.Forms.{most_form}
use Rattle.meaning.specs.Refusals.{Rule, plain, First}
use Rattle.meaning.specs.Recoding.{mark_words, form_rules, set_for, rules_with, recode_rules, below_rules}
use Rattle.refusals.specs.declared.Reason.{Reason}
use Rattle.refusals.specs.declared.Reason.TheVariants.{BadForm}
use Rattle.refusals.specs.Coded.{coded}
use Rattle.recoder.specs.declared.Form.{Form}
use Rattle.recoder.specs.declared.Form.TheVariants.{Mof, Wnaf, Wmof, Closest, ClosestSmaller}
use Rattle.recoder.specs.declared.Asked.{Asked}

-- a form in a set that has it
pub record Allowed (form w m : ℕ) : Type 0 where
  pub least : 1 ≤ form
  pub most : form ≤ most_form
  pub pair : Pair w m
  pub narrow : form ≡ 1 → w ≡ 2
  pub whole : form ≢ 2 → m ≡ largest w

-- the number of a form
abbrev pub numbered : Form → ℕ
numbered Mof = 1
numbered Wnaf = 2
numbered Wmof = 3
numbered Closest = 4
numbered ClosestSmaller = 5

-- the form of a number, or none
abbrev pub Decodes : ℕ → Result Form Reason → Type 0
Decodes n (Ok form) = numbered form ≡ n
Decodes n (Err reason) = (reason ≡ BadForm) × ((n < 1) ⊎ (most_form < n))

-- x has that form and that set
pub record Chosen (form w m : ℕ) (x : Asked) : Type 0 where
  pub form_is : numbered x.form ≡ form
  pub bits_is : x.width.bits ≡ w
  pub largest_is : x.width.largest ≡ m
  pub allowed : Allowed form w m

-- form and set, or the first rule about them that applies
abbrev pub Chooses : (form w m : ℕ) → Result Asked Reason → Type 0
Chooses form w m (Ok x) = Chosen form w m x
Chooses form w m (Err r) = First (form_rules form w ++ set_for form w m) (coded r) 0

-- no rule applies, and x has form and set
pub record Admitted (form w m : ℕ) (s : List ℕ) (places words : ℕ) (x : Asked) : Type 0 where
  pub chosen : Chosen form w m x
  pub short : length s ≤ most_bytes
  pub room : bit_count s + 1 ≤ places
  pub marks : mark_words ≤ words
  pub first : First (recode_rules form w m s places words) 0 0

abbrev pub Admits : (form w m : ℕ) (s : List ℕ) (places words : ℕ) → Result Asked Reason → Type 0
Admits form w m s places words (Ok x) = Admitted form w m s places words x
Admits form w m s places words (Err r) = First (recode_rules form w m s places words) (coded r) 0

-- the number of a reason, or 0 for none
abbrev pub told : Result ⊤ Reason → ℕ
told (Ok _) = 0
told (Err r) = coded r

-- recode's rules, and among them one that stands for all of a call's own: b is the number of the first of them that applies, 0 where none does
abbrev pub rules_of : (b form w m : ℕ) (s : List ℕ) (places words : ℕ) → List Rule
rules_of b form w m s places words = rules_with (set_for form w m) (plain b (b ≢ 0) ∷ []) form w s places words

-- r is the first that applies where that one does, whatever is lent
pub record Earlier (b : Reason) (form w m : ℕ) (s : List ℕ) (r : Reason) : Type 0 where
  pub first : (places words : ℕ) → First (rules_of (coded b) form w m s places words) (coded r) 0

-- what a call that takes a group's order is refused with before anything lent is looked at; where it is nothing, the plain call's rules are the call's
abbrev pub Bounds : (form w m : ℕ) (o : Order) (s group : List ℕ) → Result ⊤ Reason → Type 0
Bounds form w m o s group (Ok _) = (places words n p : ℕ) → First (recode_rules form w m s places words) n p → First (below_rules form w m o s group places words) n p
Bounds form w m o s group (Err r) = (places words : ℕ) → First (below_rules form w m o s group places words) (coded r) 0

-- A line answered in lent memory: how much has to be lent, what is written, and what is left in the memory that is worked in.
-- Assumes nothing.
use Rattle.std.specs.Prelude.{◌≡◌, not, List, ◌++◌, ℕ, ◌+◌, ◌*◌, ◌≤◌, T, ℤ, length, take, drop}
use Rattle.meaning.specs.Digits.{most_places, Tally}
use Rattle.meaning.specs.Scalars.{highest_first}
use Rattle.meaning.specs.Recoding.{mark_words}
use Rattle.meaning.specs.Whole.{RecodeWhole}
use Rattle.meaning.specs.Hexadecimal.{bytes_of}
use Rattle.meaning.specs.Frames.{Version, version1, version2}
use Rattle.meaning.specs.Requests.{malformed, form_of, width_of, scalar_of, Answer}

-- the most bytes of a line
abbrev pub most_frame : ℕ
most_frame = 72

-- the longest answer of a version, its line feed counted
abbrev pub most_answer : Version → ℕ
most_answer version1 = 11 + 2 * most_places
most_answer version2 = 15 + 6 * most_places

-- enough is lent for every line
pub record Lent (v : Version) (bytes₀ : List ℕ) (digits₀ : List ℤ) (marks₀ out₀ : List ℕ) : Type 0 where
  pub bytes_fit : most_frame ≤ length bytes₀
  pub digits_fit : most_places ≤ length digits₀
  pub marks_fit : mark_words ≤ length marks₀
  pub answer_fits : most_answer v ≤ length out₀

-- the memory that is worked in is as lent
pub record Kept (bytes₀ : List ℕ) (digits₀ : List ℤ) (marks₀ bytes : List ℕ) (digits : List ℤ) (marks : List ℕ) : Type 0 where
  pub bytes_are : bytes ≡ bytes₀
  pub digits_are : digits ≡ digits₀
  pub marks_are : marks ≡ marks₀

-- it holds the frame's bytes and then what stood past them, and what recode leaves, which answers a
pub record Worked (line bytes₀ : List ℕ) (digits₀ : List ℤ) (marks₀ bytes : List ℕ) (digits : List ℤ) (marks : List ℕ) (a : Tally) : Type 0 where
  pub bytes_are : bytes ≡ bytes_of line ++ drop (length (bytes_of line)) bytes₀
  pub recoded : RecodeWhole (form_of line) (width_of line) highest_first (scalar_of line) digits₀ marks₀ a digits marks

-- where enough is lent: the answer is the first r characters of out, what stood past them stands, and only a frame is worked on
pub record Filled (v : Version) (line bytes₀ : List ℕ) (digits₀ : List ℤ) (marks₀ out₀ : List ℕ) (r : ℕ) (bytes : List ℕ) (digits : List ℤ) (marks out : List ℕ) : Type 0 where
  pub within : r ≤ length out
  pub answer : Answer v line (take r out)
  pub rest : drop r out ≡ drop r out₀
  pub strange : T (malformed line) → Kept bytes₀ digits₀ marks₀ bytes digits marks
  pub frame : T (not (malformed line)) → (a : Tally) × Worked line bytes₀ digits₀ marks₀ bytes digits marks a

-- where it is not: nothing is touched
pub record Untouched (bytes₀ : List ℕ) (digits₀ : List ℤ) (marks₀ out₀ : List ℕ) (r : ℕ) (bytes : List ℕ) (digits : List ℤ) (marks out : List ℕ) : Type 0 where
  pub none : r ≡ 0
  pub out_is : out ≡ out₀
  pub kept : Kept bytes₀ digits₀ marks₀ bytes digits marks

-- the call: the answer's length r, and all lent memory afterwards
pub record Answered (v : Version) (line bytes₀ : List ℕ) (digits₀ : List ℤ) (marks₀ out₀ : List ℕ) (r : ℕ) (bytes : List ℕ) (digits : List ℤ) (marks out : List ℕ) : Type 0 where
  pub enough : Lent v bytes₀ digits₀ marks₀ out₀ → Filled v line bytes₀ digits₀ marks₀ out₀ r bytes digits marks out
  pub short : (Lent v bytes₀ digits₀ marks₀ out₀ → ⊥) → Untouched bytes₀ digits₀ marks₀ out₀ r bytes digits marks out

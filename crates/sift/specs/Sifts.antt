-- A damaged file, taken in piece by piece: what is written of its lines and said of them, and what the functions do. Assumes nothing.
use Rattle.std.specs.Prelude.{◌≡◌, List, ◌++◌, ℕ, ◌+◌, ◌<◌, ◌≤◌, ℤ, length, take, Result, Ok, Err}
use Rattle.meaning.specs.Digits.{most_places}
use Rattle.meaning.specs.Salvage.{most_line, kept_line, kept_lines, remarks, reported, told}
use Rattle.cutter.specs.Cuts.{ended, begun, last, Keeps}
use Rattle.sift.specs.Puts.{Puts, most_remark}
use Rattle.sift.specs.declared.Sifted.{Sifted}
use Rattle.sift.specs.declared.Fed.{Fed}
use Rattle.sift.specs.declared.Room.{Room}
use Rattle.refusals.specs.declared.Reason.{Reason}
use Rattle.refusals.specs.Coded.{coded}

-- enough is lent for every line: its places, the line with its line feed, and a remark
pub record Lent (digits : List ℤ) (out report : List ℕ) : Type 0 where
  pub digits_fit : most_places ≤ length digits
  pub line_fits : most_line < length out
  pub remark_fits : most_remark ≤ length report

-- ---- a line, which is number k
-- the number of its refusal, 0 where it is kept
abbrev pub judged : Result (Unit {0}) Reason → ℕ
judged (Ok _) = 0
judged (Err r) = coded r

pub record Sifts (k : ℕ) (line out₀ report₀ : List ℕ) (s : Sifted) (out report : List ℕ) : Type 0 where
  pub keeps : Puts (kept_line line) 0 out₀ s.filled out
  pub tells : Puts (told (remarks k line)) 0 report₀ s.said report

-- ---- what is taken in
-- a text is the first n characters of lent memory
pub record Holds (text out : List ℕ) (n : ℕ) : Type 0 where
  pub within : n ≤ length out
  pub front_is : take n out ≡ text

-- a piece has been taken in after p, where the first line that ends is number k: what is kept of the lines that ended and what is said of them stands at the front of lent memory, the line that has not
-- ended is kept, and its number is known
pub record Taken (k : ℕ) (p piece line : List ℕ) (kept : ℕ) (out : List ℕ) (filled : ℕ) (report : List ℕ) (said number : ℕ) : Type 0 where
  pub keeps : Keeps (begun p piece) line kept
  pub lines_are : Holds (kept_lines (ended p piece)) out filled
  pub remarks_are : Holds (told (reported k (ended p piece))) report said
  pub number_is : number ≡ length (ended p piece) + k

-- ---- the functions
-- the memory that is lent is the same, and as long as it was
pub record Same (r₀ r : Room) : Type 0 where
  pub digits_same : r.digits.ghost_name ≡ r₀.digits.ghost_name
  pub out_same : r.out.ghost_name ≡ r₀.out.ghost_name
  pub report_same : r.report.ghost_name ≡ r₀.report.ghost_name
  pub digits_length : length r.digits.now ≡ length r₀.digits.now
  pub out_length : length r.out.now ≡ length r₀.out.now
  pub report_length : length r.report.now ≡ length r₀.report.now

-- what they answer stays within the memory
pub record Bounded (piece line out report : List ℕ) (f : Fed) : Type 0 where
  pub used_within : f.used ≤ length piece
  pub kept_within : f.kept ≤ length line
  pub filled_within : f.filled ≤ length out
  pub said_within : f.said ≤ length report
  pub moves : 0 < length piece → 0 < f.used

-- a part of a piece: whatever had been taken in before, what is used of the part is taken in after it
pub record Stepped (piece line₀ : List ℕ) (kept₀ : ℕ) (out₀ : List ℕ) (filled₀ : ℕ) (report₀ : List ℕ) (said₀ number₀ : ℕ) (f : Fed) (line out report : List ℕ) : Type 0 where
  pub bounded : Bounded piece line out report f
  pub number_within : f.number ≤ number₀ + 1
  pub taken : (k : ℕ) (p before : List ℕ) → Taken k p before line₀ kept₀ out₀ filled₀ report₀ said₀ number₀
      → Taken k p (before ++ take f.used piece) line f.kept out f.filled report f.said f.number

-- a piece: what is used of it is taken in, and there are no more lines in it than characters
pub record Feeds (piece line₀ : List ℕ) (kept₀ number₀ : ℕ) (f : Fed) (line out report : List ℕ) : Type 0 where
  pub bounded : Bounded piece line out report f
  pub number_within : f.number ≤ number₀ + f.used
  pub taken : (p : List ℕ) → Keeps p line₀ kept₀ → Taken number₀ p (take f.used piece) line f.kept out f.filled report f.said f.number

-- the end: what is kept of the last line, which is number k, and what is said of it
pub record Ends (k : ℕ) (line : List ℕ) (kept : ℕ) (s : Sifted) (out report : List ℕ) : Type 0 where
  pub filled_within : s.filled ≤ length out
  pub said_within : s.said ≤ length report
  pub lines_are : (p : List ℕ) → Keeps p line kept → take s.filled out ≡ kept_lines (last p)
  pub remarks_are : (p : List ℕ) → Keeps p line kept → take s.said report ≡ told (reported k (last p))

-- what has to be kept of a line at least: one character more than a frame may have, since a longer line is dropped as well
abbrev pub least_kept : ℕ
least_kept = most_line + 1

-- A stream of lines, taken in piece by piece and answered. Whatever relation R says what a line is answered: what has been taken in, and what the functions do; `stream` has
-- them for the answers to frames. Assumes nothing.
use Rattle.std.specs.Prelude.{◌≡◌, List, ◌++◌, ◌⊎◌, ℕ, ◌+◌, ◌<◌, ◌≤◌, length, take, drop}
use Rattle.meaning.specs.Lines.{Each}
use Rattle.meaning.specs.Requests.{most_characters}
use Rattle.cutter.specs.Cuts.{ended, begun, last, Keeps}
use Rattle.stream.specs.declared.Fed.{Fed}
use Rattle.stream.specs.declared.Room.{Room}

-- ---- what is taken in
-- a piece has been taken in after p: the lines that ended are answered at the front of out, whose rest is as lent, and the one that has not is kept
pub record Taken (R : List ℕ → List ℕ → Type 0) (p piece line : List ℕ) (kept : ℕ) (out₀ out : List ℕ) (filled : ℕ) : Type 0 where
  pub keeps : Keeps (begun p piece) line kept
  pub answers : Each R (ended p piece) (take filled out)
  pub within : filled ≤ length out
  pub rest : drop filled out ≡ drop filled out₀

-- ---- the functions
-- the memory that is lent is the same, and as long as it was
pub record Same (r₀ r : Room) : Type 0 where
  pub bytes_same : r.bytes.ghost_name ≡ r₀.bytes.ghost_name
  pub digits_same : r.digits.ghost_name ≡ r₀.digits.ghost_name
  pub marks_same : r.marks.ghost_name ≡ r₀.marks.ghost_name
  pub out_same : r.out.ghost_name ≡ r₀.out.ghost_name
  pub bytes_length : length r.bytes.now ≡ length r₀.bytes.now
  pub digits_length : length r.digits.now ≡ length r₀.digits.now
  pub marks_length : length r.marks.now ≡ length r₀.marks.now
  pub out_length : length r.out.now ≡ length r₀.out.now

-- a part of a piece: whatever had been taken in before, what is used of the part is taken in after it
pub record Stepped (R : List ℕ → List ℕ → Type 0) (piece line₀ : List ℕ) (kept₀ : ℕ) (out₀ : List ℕ) (filled₀ : ℕ) (f : Fed) (line out : List ℕ) : Type 0 where
  pub used_within : f.used ≤ length piece
  pub kept_within : f.kept ≤ length line
  pub filled_within : f.filled ≤ length out
  pub moves : 0 < length piece → 0 < f.used
  pub taken : (p before first : List ℕ) → Taken R p before line₀ kept₀ first out₀ filled₀ → Taken R p (before ++ take f.used piece) line f.kept first out f.filled

-- a piece: what is used of it is taken in, and that is all, or there is no room for a whole answer more, which has `most` characters
pub record Feeds (R : List ℕ → List ℕ → Type 0) (most : ℕ) (piece line₀ : List ℕ) (kept₀ : ℕ) (out₀ : List ℕ) (f : Fed) (line out : List ℕ) : Type 0 where
  pub used_within : f.used ≤ length piece
  pub kept_within : f.kept ≤ length line
  pub filled_within : f.filled ≤ length out
  pub moves : 0 < length piece → 0 < f.used
  pub stops : (f.used ≡ length piece) ⊎ (length out < f.filled + most)
  pub taken : (p : List ℕ) → Keeps p line₀ kept₀ → Taken R p (take f.used piece) line f.kept out₀ out f.filled

-- the end: the answer to what has come of the last line is the first r characters of out
pub record Ends (R : List ℕ → List ℕ → Type 0) (line : List ℕ) (kept : ℕ) (r : ℕ) (out : List ℕ) : Type 0 where
  pub within : r ≤ length out
  pub answers : (p : List ℕ) → Keeps p line kept → Each R (last p) (take r out)

-- ---- frames
-- what has to be kept of a line at least: one character more than a frame may have, since a longer line is malformed as well
abbrev pub least_kept : ℕ
least_kept = most_characters + 1

-- Salvage of a damaged file of frames of both versions: which lines are kept, what is written, and what is reported, over the file's bytes.
-- Assumes nothing.
use Rattle.std.specs.Prelude.{cond, List, [], ◌∷◌, ◌++◌, ℕ, zero, suc, ◌+◌, ◌/◌, ◌%◌, ◌<◌, ltb, eqb, length}
use Rattle.meaning.specs.Digits.{most_places}
use Rattle.meaning.specs.Refusals.{Rule, plain}
use Rattle.meaning.specs.Lines.{line_feed, lines_of}
use Rattle.meaning.specs.Hexadecimal.{bytes_of, in_capitals, has_small}
use Rattle.meaning.specs.Frames.{places_in, unreadable, unfit, read_rules}

-- ---- a line
-- the most characters of a line: those of version 2 with 529 nonzero digits
abbrev pub most_line : ℕ
most_line = 3188

-- 16 also for a longer line, then the rules of reading it into 529 places
abbrev pub salvage_rules : List ℕ → List Rule
salvage_rules line = plain 16 (most_line < length line) ∷ read_rules line most_places

-- the number of the first that applies, worked out; 0 where none does, and the line is kept
unfoldable pub verdict : List ℕ → ℕ
verdict line =
    let bs = bytes_of line in
    cond (ltb most_line (length line)) 16
    (cond (unreadable line) 16
    (cond (ltb most_places (places_in bs)) 7
    (cond (unfit bs) 21 0)))

-- ---- what is kept
-- of a line: the line in capitals, ended by a line feed, or nothing
unfoldable pub kept_line : List ℕ → List ℕ
kept_line line = cond (eqb (verdict line) 0) (in_capitals line ++ (line_feed ∷ [])) []

unfoldable pub kept_lines : List (List ℕ) → List ℕ
kept_lines [] = []
kept_lines (l ∷ ls) = kept_line l ++ kept_lines ls

-- of a file
abbrev pub salvaged : List ℕ → List ℕ
salvaged file = kept_lines (lines_of file)

-- ---- what is reported
pub data Remark : Type 0 where
  dropped : (refusal : ℕ) → Remark
  case_only : Remark

-- of the line that is number k: that it is dropped, or that only letters' case changed, or nothing
unfoldable pub remarks : ℕ → List ℕ → List (ℕ × Remark)
remarks k line = cond (eqb (verdict line) 0) (cond (has_small line) ((k, case_only) ∷ []) []) ((k, dropped (verdict line)) ∷ [])

-- of lines, the first of which is number k
unfoldable pub reported : ℕ → List (List ℕ) → List (ℕ × Remark)
reported k [] = []
reported k (l ∷ ls) = remarks k l ++ reported (suc k) ls

-- of a file, its lines counted from 1
abbrev pub report : List ℕ → List (ℕ × Remark)
report file = reported 1 (lines_of file)

-- a report whose line numbers are moved by n
unfoldable pub moved : ℕ → List (ℕ × Remark) → List (ℕ × Remark)
moved n [] = []
moved n (x ∷ xs) = (n + x.0, x.1) ∷ moved n xs

-- ---- the report's text
-- a number in decimal characters, the highest first: those of its tenth part, then the last. k is the most characters before the last
unfoldable pub numeral : (k n : ℕ) → List ℕ
numeral zero n = (48 + n) ∷ []
numeral (suc k) n = cond (ltb n 10) ((48 + n) ∷ []) (numeral k (n / 10) ++ ((48 + n % 10) ∷ []))

abbrev pub decimal : ℕ → List ℕ
decimal n = numeral n n

-- ` dropped ` and a refusal's number, or ` case only`
abbrev pub dropped_word : List ℕ
dropped_word = 32 ∷ 100 ∷ 114 ∷ 111 ∷ 112 ∷ 112 ∷ 101 ∷ 100 ∷ 32 ∷ []

abbrev pub case_word : List ℕ
case_word = 32 ∷ 99 ∷ 97 ∷ 115 ∷ 101 ∷ 32 ∷ 111 ∷ 110 ∷ 108 ∷ 121 ∷ []

abbrev pub said : Remark → List ℕ
said (dropped r) = dropped_word ++ decimal r
said case_only = case_word

-- a line for each remark: the number of the line, what is said of it, a line feed
unfoldable pub told : List (ℕ × Remark) → List ℕ
told [] = []
told (x ∷ xs) = (decimal x.0 ++ (said x.1 ++ (line_feed ∷ []))) ++ told xs

-- The program: a frame of hexadecimal pairs in, its answer out, a line each. The answer is a frame of the version that the program writes.
-- Assumes nothing.
use Rattle.std.specs.Prelude.{◌≡◌, ◌≢◌, Bool, not, ◌||◌, List, [], ◌∷◌, ◌++◌, ℕ, ◌+◌, ◌%◌, T, ltb, eqb, ℤ, length, get_or, drop}
use Rattle.meaning.specs.Scalars.{highest_first, number, bit_count}
use Rattle.meaning.specs.Forms.{Form}
use Rattle.meaning.specs.Refusals.{Rule, plain, First}
use Rattle.meaning.specs.Recoding.{mark_words}
use Rattle.meaning.specs.Whole.{whole_rules}
use Rattle.meaning.specs.Lines.{line_feed, Each}
use Rattle.meaning.specs.Hexadecimal.{all_hex, bytes_of, written}
use Rattle.meaning.specs.Frames.{Version, line_of}

-- the most characters of a line, its line feed not counted
abbrev pub most_characters : ℕ
most_characters = 144

-- ---- a frame: form, width, scalar length, then the scalar's bytes
-- 16: empty, over 144 characters, of odd length, holding another character, under three bytes, or of another length than stated
unfoldable pub malformed : List ℕ → Bool
malformed line =
    let bytes = bytes_of line in
    eqb (length line) 0
    || (ltb most_characters (length line)
    || (eqb (length line % 2) 1
    || (not (all_hex line)
    || (ltb (length bytes) 3
    || not (eqb (length bytes) (3 + get_or bytes 2 0))))))

abbrev pub form_of : List ℕ → ℕ
form_of line = get_or (bytes_of line) 0 0

abbrev pub width_of : List ℕ → ℕ
width_of line = get_or (bytes_of line) 1 0

abbrev pub scalar_of : List ℕ → List ℕ
scalar_of line = drop 3 (bytes_of line)

-- the program tries 16 first, then the recode's rules, for which it always lends enough
abbrev pub line_rules : List ℕ → List Rule
line_rules line =
    let s = scalar_of line in
    plain 16 (T (malformed line)) ∷ whole_rules (form_of line) (width_of line) s (bit_count s + 1) mark_words

-- ---- the answer, in version v
-- out is the answer to a line: in capitals, ended by a line feed; a refusal is its two characters alone, in both versions
pub record Answer (v : Version) (line out : List ℕ) : Type 0 where
  pub refusal : ℕ
  pub first : First (line_rules line) refusal 0
  pub accepted : refusal ≡ 0 → (ds : List ℤ) × Form (form_of line) (width_of line) (number highest_first (scalar_of line)) (bit_count (scalar_of line)) ds × (out ≡ line_of v ds ++ (line_feed ∷ []))
  pub refused : refusal ≢ 0 → out ≡ written (refusal ∷ []) ++ (line_feed ∷ [])

-- out is what the program writes for an input: the answers to its lines, one after the other
abbrev pub Answers : Version → List (List ℕ) → List ℕ → Type 0
Answers v = Each (Answer v)

-- Frames of both versions: the line that is written for a digit string, and what a line is read to. A line is its characters, without a line feed.
-- Assumes nothing.
use Rattle.std.specs.Prelude.{◌≡◌, Bool, true, cond, not, ◌&&◌, ◌||◌, List, [], ◌∷◌, ◌++◌, ℕ, suc, ◌+◌, ◌-◌, ◌*◌, ◌/◌, ◌%◌, ◌<◌, T, leb, ltb, eqb, ℤ, pos, negsuc, length, get_or, drop}
use Rattle.meaning.specs.Digits.{most_places, nonzero, weight, top, listed}
use Rattle.meaning.specs.Refusals.{Rule, plain, First, granted, kept}
use Rattle.meaning.specs.Checking.{long_string}
use Rattle.meaning.specs.Hexadecimal.{between, in_pairs, bytes_of, written}

-- ---- numbers and digits as bytes
-- a number of two bytes, the high one first
abbrev pub two_bytes : ℕ → List ℕ
two_bytes x = x / 256 ∷ x % 256 ∷ []

-- a digit is a signed byte: -128 to 127
unfoldable pub signed : ℤ → Bool
signed (pos n) = ltb n 128
signed (negsuc n) = ltb n 128

unfoldable pub all_signed : List ℤ → Bool
all_signed [] = true
all_signed (d ∷ ds) = signed d && all_signed ds

-- a digit as a byte, in two's complement
unfoldable pub byte_of : ℤ → ℕ
byte_of (pos n) = n
byte_of (negsuc n) = 255 - n

unfoldable pub digit_bytes : List ℤ → List ℕ
digit_bytes [] = []
digit_bytes (d ∷ ds) = byte_of d ∷ digit_bytes ds

-- the digit of a byte
unfoldable pub digit_of : ℕ → ℤ
digit_of b = cond (ltb b 128) (pos b) (negsuc (255 - b))

unfoldable pub digits_of : List ℕ → List ℤ
digits_of [] = []
digits_of (b ∷ bs) = digit_of b ∷ digits_of bs

-- ---- entries: a place and its digit
abbrev pub Entry : Type 0
Entry = ℕ × ℤ

-- the nonzero digits of a string whose lowest place is p, lowest first
unfoldable pub entries_from : ℕ → List ℤ → List Entry
entries_from p [] = []
entries_from p (d ∷ ds) = cond (eqb (nonzero d) 0) (entries_from (suc p) ds) ((p, d) ∷ entries_from (suc p) ds)

-- each in three bytes: the place in two, then the digit
unfoldable pub entry_bytes : List Entry → List ℕ
entry_bytes [] = []
entry_bytes (e ∷ es) = e.0 / 256 ∷ e.0 % 256 ∷ byte_of e.1 ∷ entry_bytes es

-- the entries of bytes
unfoldable pub entries_of : List ℕ → List Entry
entries_of [] = []
entries_of (a ∷ []) = []
entries_of (a ∷ b ∷ []) = []
entries_of (a ∷ b ∷ c ∷ bs) = (256 * a + b, digit_of c) ∷ entries_of bs

-- no place is under p or not below n, no digit is 0, and each place is above the one before it
unfoldable pub rising : ℕ → ℕ → List Entry → Bool
rising p n [] = true
rising p n (e ∷ es) = leb p e.0 && (ltb e.0 n && (eqb (nonzero e.1) 1 && rising (suc e.0) n es))

-- the digit at a place: that of the entry there, 0 where there is none
unfoldable pub digit_at : List Entry → ℕ → ℤ
digit_at [] p = pos 0
digit_at (e ∷ es) p = cond (eqb e.0 p) e.1 (digit_at es p)

-- ---- writing
-- the two versions
pub data Version : Type 0 where
  version1 : Version
  version2 : Version

-- the byte that version 2 opens with; version 1 opens with 0
abbrev pub opening : ℕ
opening = 0xA2

-- version 1: 0, weight, top, then the digits, place 0 first; version 2: A2, weight, top, the place count, then for each nonzero digit, lowest place first, its place and digit
abbrev pub frame_bytes : Version → List ℤ → List ℕ
frame_bytes version1 ds = 0 ∷ (two_bytes (weight ds) ++ (two_bytes (top ds) ++ digit_bytes ds))
frame_bytes version2 ds = opening ∷ (two_bytes (weight ds) ++ (two_bytes (top ds) ++ (two_bytes (length ds) ++ entry_bytes (entries_from 0 ds))))

-- the line of a string
abbrev pub line_of : Version → List ℤ → List ℕ
line_of v ds = written (frame_bytes v ds)

-- 7, then 24: line buffer too short
abbrev pub write_rules : (v : Version) (ds : List ℤ) (room : ℕ) → List Rule
write_rules v ds room = long_string ds ∷ plain 24 (room < length (line_of v ds)) ∷ []

-- what writing answers: the number of a refusal, and on acceptance the line's length
pub record Framed : Type 0 where
  pub refusal : ℕ
  pub length : ℕ

-- the line stands at the front of the buffer, whose rest stays
pub record Write (v : Version) (ds : List ℤ) (out₀ : List ℕ) (a : Framed) (out : List ℕ) : Type 0 where
  pub first : First (write_rules v ds (length out₀)) a.refusal 0
  pub length_is : a.length ≡ granted a.refusal (length (line_of v ds))
  pub out_is : out ≡ kept a.refusal (line_of v ds ++ drop (length (line_of v ds)) out₀) out₀

-- ---- the fields of a line's bytes
-- the number in the two bytes at k
abbrev pub number_at : List ℕ → ℕ → ℕ
number_at bs k = 256 * get_or bs k 0 + get_or bs (k + 1) 0

-- they are of version 2
unfoldable pub is_sparse : List ℕ → Bool
is_sparse bs = eqb (get_or bs 0 0) opening

abbrev pub weight_in : List ℕ → ℕ
weight_in bs = number_at bs 1

abbrev pub top_in : List ℕ → ℕ
top_in bs = number_at bs 3

-- the entries of version 2
abbrev pub entries_in : List ℕ → List Entry
entries_in bs = entries_of (drop 7 bs)

-- version 2 states its places; version 1 has as places the bytes after the top
unfoldable pub places_in : List ℕ → ℕ
places_in bs = cond (is_sparse bs) (number_at bs 5) (length bs - 5)

unfoldable pub digits_in : List ℕ → List ℤ
digits_in bs = cond (is_sparse bs) (listed (digit_at (entries_in bs)) 0 (number_at bs 5)) (digits_of (drop 5 bs))

-- ---- reading
-- the number that a refused line gives, a line of one byte, 1 to 16 but not 6; 0 for any other line
unfoldable pub stated : List ℕ → ℕ
stated line =
    let b = get_or (bytes_of line) 0 0 in
    cond (in_pairs line && (eqb (length line) 2 && (between 1 16 b && not (eqb b 6)))) b 0

-- a field is lacking, or part of one
unfoldable pub lacking : List ℕ → Bool
lacking bs = cond (is_sparse bs) (ltb (length bs) 7 || not (eqb ((length bs - 7) % 3) 0)) (ltb (length bs) 5)

-- 16: no refused line, and not all hexadecimal, or not opening with 00 or A2, or lacking a field or part of one
unfoldable pub unreadable : List ℕ → Bool
unreadable line =
    let bs = bytes_of line in
    eqb (stated line) 0 && (not (in_pairs line) || (not (is_sparse bs || eqb (get_or bs 0 0) 0) || lacking bs))

-- the places rise, below the count, and no digit is 0: only version 2 has entries
unfoldable pub in_order : List ℕ → Bool
in_order bs = cond (is_sparse bs) (rising 0 (number_at bs 5) (entries_in bs)) true

-- 21: places not rising, a zero digit, a place not below the count, or weight or top that does not fit the digits
unfoldable pub unfit : List ℕ → Bool
unfit bs = not (in_order bs && (eqb (weight_in bs) (weight (digits_in bs)) && eqb (top_in bs) (top (digits_in bs))))

-- 16, 7: over 529 places, 21, then 4: digit buffer under the place count
abbrev pub read_rules : (line : List ℕ) (places : ℕ) → List Rule
read_rules line places =
    let bs = bytes_of line in
    plain 16 (T (unreadable line)) ∷ plain 7 (most_places < places_in bs) ∷ plain 21 (T (unfit bs)) ∷ plain 4 (places < places_in bs) ∷ []

-- what reading answers: the number of a refusal; on acceptance the number that a refused line gives, or else 0 there, and the weight, the top and the places of a string
pub record Parsed : Type 0 where
  pub refusal : ℕ
  pub stated : ℕ
  pub weight : ℕ
  pub top : ℕ
  pub places : ℕ

-- the digits stand at the front of the buffer, whose rest stays; a refused line has no places, and 0 as weight and top
pub record Read (line : List ℕ) (digits₀ : List ℤ) (a : Parsed) (digits : List ℤ) : Type 0 where
  pub first : First (read_rules line (length digits₀)) a.refusal 0
  pub stated_is : a.stated ≡ granted a.refusal (stated line)
  pub weight_is : a.weight ≡ granted a.refusal (weight_in (bytes_of line))
  pub top_is : a.top ≡ granted a.refusal (top_in (bytes_of line))
  pub places_are : a.places ≡ granted a.refusal (places_in (bytes_of line))
  pub digits_are : digits ≡ kept a.refusal (digits_in (bytes_of line) ++ drop (places_in (bytes_of line)) digits₀) digits₀

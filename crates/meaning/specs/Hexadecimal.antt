-- Bytes as pairs of hexadecimal characters: read in either case, written in capitals.
-- Assumes nothing.
use Rattle.std.specs.Prelude.{Bool, true, false, cond, ◌&&◌, ◌||◌, List, [], ◌∷◌, ℕ, ◌+◌, ◌-◌, ◌*◌, ◌/◌, ◌%◌, leb, ltb, eqb, length}

-- lo ≤ c ≤ hi
abbrev pub between : ℕ → ℕ → ℕ → Bool
between lo hi c = leb lo c && leb c hi

-- what a character stands for, in either case, and 16 for any other character
unfoldable pub nibble : ℕ → ℕ
nibble c =
    cond (between 48 57 c) (c - 48)
    (cond (between 65 70 c) (c - 55)
    (cond (between 97 102 c) (c - 87) 16))

-- every character is hexadecimal
unfoldable pub all_hex : List ℕ → Bool
all_hex [] = true
all_hex (c ∷ cs) = ltb (nibble c) 16 && all_hex cs

-- a line is hexadecimal pairs
unfoldable pub in_pairs : List ℕ → Bool
in_pairs line = all_hex line && eqb (length line % 2) 0

-- the bytes of a line's pairs
unfoldable pub bytes_of : List ℕ → List ℕ
bytes_of [] = []
bytes_of (a ∷ []) = []
bytes_of (a ∷ b ∷ cs) = (16 * nibble a + nibble b) ∷ bytes_of cs

-- the character of a number below 16, in capitals
abbrev pub capital : ℕ → ℕ
capital x = cond (ltb x 10) (48 + x) (55 + x)

-- the characters of a byte, and of bytes
abbrev pub pair : ℕ → List ℕ → List ℕ
pair b cs = capital (b / 16) ∷ capital (b % 16) ∷ cs

unfoldable pub written : List ℕ → List ℕ
written [] = []
written (b ∷ bs) = pair b (written bs)

-- ---- letters' case
-- a small letter of hexadecimal as a capital, and any other character as it is
unfoldable pub raised : ℕ → ℕ
raised c = cond (between 97 102 c) (c - 32) c

-- a line in capitals: two lines are the same but for the case of letters where these are equal
unfoldable pub in_capitals : List ℕ → List ℕ
in_capitals [] = []
in_capitals (c ∷ cs) = raised c ∷ in_capitals cs

-- a line holds a small letter
unfoldable pub has_small : List ℕ → Bool
has_small [] = false
has_small (c ∷ cs) = between 97 102 c || has_small cs

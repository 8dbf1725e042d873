-- What characters stand for: the three ranges of hexadecimal characters, and all others. A line of them: its pairs, their count and each of them.
-- Assumes nothing.
use mathlib.Core.Path.{◌≡◌, refl, sym, ap, subst}
use mathlib.Core.Bool.{Bool, true, false}
use Rattle.std.proofs.Common.{IsTrue, ◌↔◌, EachIndex}
use mathlib.Core.List.{List, [], ◌∷◌, ◌++◌}
use Prim.Native.Nat.{ℕ, zero, suc, ◌+◌, ◌*◌, ◌-◌, ◌/◌, ◌<◌, ◌≤◌}
use native.Mathlib.Omega.{arith}
use lib.Dec.{T, ltb, ltb→lt}
use lib.ListN.{length, get_or}
use borrow.Author.Tests.{le-leb, lt-leb, lt-ltb}
use native.Mathlib.Decide.{dec_le}
use Rattle.laws.proofs.Choices.{and_both, true_false}
use Rattle.meaning.specs.Hexadecimal.{between, nibble, all_hex, bytes_of}

-- ---- one character
pub inside : (lo hi c : ℕ) → lo ≤ c → c ≤ hi → between lo hi c ≡ true
inside lo hi c l h = rw (le-leb lo c l, le-leb c hi h)

pub outside : (lo hi c : ℕ) → (lo ≤ c → c ≤ hi → ⊥) → between lo hi c ≡ false
outside lo hi c n = go (dec_le lo c) (dec_le c hi)
  where
    go : Dec (lo ≤ c) → Dec (c ≤ hi) → between lo hi c ≡ false
    go (yes l) (yes h) = absurd (n l h)
    go (yes l) (no h) = rw (le-leb lo c l, lt-leb c hi (omega arith))
    go (no l) h = rw (lt-leb lo c (omega arith))

module _ (c : ℕ) where
  pub decimal : 48 ≤ c → c ≤ 57 → nibble c ≡ c - 48
  unfolding nibble
  decimal l h = rw (inside 48 57 c l h)

  pub upper : 65 ≤ c → c ≤ 70 → nibble c ≡ c - 65 + 10
  unfolding nibble
  upper l h = rw (outside 48 57 c (λ a b. omega arith), inside 65 70 c l h) (omega arith)

  pub lower : 97 ≤ c → c ≤ 102 → nibble c ≡ c - 97 + 10
  unfolding nibble
  lower l h =
      rw (outside 48 57 c (λ a b. omega arith), outside 65 70 c (λ a b. omega arith), inside 97 102 c l h) (omega arith)

  pub other : (48 ≤ c → c ≤ 57 → ⊥) → (65 ≤ c → c ≤ 70 → ⊥) → (97 ≤ c → c ≤ 102 → ⊥) → nibble c ≡ 16
  unfolding nibble
  other d u l = rw (outside 48 57 c d, outside 65 70 c u, outside 97 102 c l)

-- ---- a line
-- the bytes are half as many
pub bytes_count : (line : List ℕ) → length (bytes_of line) ≡ length line / 2
unfolding bytes_of
bytes_count [] = refl
bytes_count (a ∷ []) = refl
bytes_count (a ∷ b ∷ cs) = omega (arith, bytes_count cs)

-- each is a pair of characters
pub byte_is : (line : List ℕ) (k : ℕ) → 2 * k + 1 < length line → get_or (bytes_of line) k 0 ≡ 16 * nibble (get_or line (2 * k) 0) + nibble (get_or line (2 * k + 1) 0)
unfolding bytes_of
byte_is [] k h = absurd (omega arith)
byte_is (a ∷ []) k h = absurd (omega arith)
byte_is (a ∷ b ∷ cs) zero h = refl
byte_is (a ∷ b ∷ cs) (suc k) h =
    let e : 2 * suc k ≡ suc (suc (2 * k)) = omega arith in
    let f : 2 * suc k + 1 ≡ suc (suc (2 * k + 1)) = omega arith in
    rw (f, e) (byte_is cs k (omega arith))

-- less than a pair has none
pub bytes_end : (line : List ℕ) → length line < 2 → bytes_of line ≡ []
unfolding bytes_of
bytes_end [] h = refl
bytes_end (a ∷ []) h = refl
bytes_end (a ∷ b ∷ cs) h = absurd (omega arith)

-- where all are hexadecimal, each stands for a number below 16
pub hex_at : (line : List ℕ) → T (all_hex line) → (i : ℕ) → i < length line → nibble (get_or line i 0) < 16
unfolding all_hex
hex_at [] t i h = absurd (omega arith)
hex_at (c ∷ cs) t zero h = ltb→lt (nibble c) 16 (and_both (ltb (nibble c) 16) (all_hex cs) t).0
hex_at (c ∷ cs) t (suc i) h = hex_at cs (and_both (ltb (nibble c) 16) (all_hex cs) t).1 i (omega arith)

-- all are hexadecimal exactly if each stands for a number below 16
hex_all : (line : List ℕ) → ((i : ℕ) → i < length line → nibble (get_or line i 0) < 16) → all_hex line ≡ true
unfolding all_hex
hex_all [] each = refl
hex_all (c ∷ cs) each = rw (lt-ltb _ _ (each 0 (omega arith)), hex_all cs (λ i h. each (suc i) (omega arith)))

pub hex_each : (line : List ℕ) (r : Bool) → (IsTrue r ↔ EachIndex line (λ i. nibble (get_or line i 0) < 16)) → r ≡ all_hex line
hex_each line true e = sym (hex_all line (e.0 refl))
hex_each line false e = go (all_hex line) (hex_at line)
  where
    go : (b : Bool) → (T b → (i : ℕ) → i < length line → nibble (get_or line i 0) < 16) → false ≡ b
    go true h = absurd (true_false (sym (e.1 (h tt))))
    go false h = refl

-- the first pair of a line, and the rest
pub record Paired (line pair rest : List ℕ) : Type 0 where
  pub high : nibble (get_or pair 0 0) < 16
  pub low : nibble (get_or pair 1 0) < 16
  pub rest_hex : T (all_hex rest)
  pub bytes_are : bytes_of line ≡ (16 * nibble (get_or pair 0 0) + nibble (get_or pair 1 0)) ∷ bytes_of rest

pub paired : (line pair rest : List ℕ) → T (all_hex line) → line ≡ pair ++ rest → length pair ≡ 2 → Paired line pair rest
unfolding all_hex bytes_of
paired line [] rest t e h = absurd (omega arith)
paired line (a ∷ []) rest t e h = absurd (omega arith)
paired line (a ∷ b ∷ c ∷ cs) rest t e h = absurd (omega arith)
paired line (a ∷ b ∷ []) rest t e h =
    let f = and_both (ltb (nibble a) 16) (all_hex (b ∷ rest)) (subst (λ l. T (all_hex l)) e t) in
    let g = and_both (ltb (nibble b) 16) (all_hex rest) f.1 in
    record { high = ltb→lt (nibble a) 16 f.0; low = ltb→lt (nibble b) 16 g.0; rest_hex = g.1; bytes_are = ap bytes_of e }

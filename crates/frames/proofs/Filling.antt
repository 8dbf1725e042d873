-- A line filled: its fields and its digits stored one behind the other, and what a writer answers. Assumes nothing.
use mathlib.Core.Path.{◌≡◌, refl, sym, ap, ◌∙◌}
use mathlib.Core.List.{List, [], ◌∷◌, ◌++◌}
use Prim.Native.Nat.{ℕ, ◌+◌, ◌*◌, ◌<◌, ◌≤◌}
use native.Mathlib.Numerals.{add-one}
use native.Mathlib.Omega.{arith}
use lib.IntN.{ℤ, pos}
use lib.ListN.{length, get_or, drop}
use lib.Seq.{sets, drop-cons}
use Rattle.meaning.specs.Digits.{most_places}
use Rattle.meaning.specs.Refusals.{Rule}
use Rattle.meaning.specs.Hexadecimal.{pair, written}
use Rattle.meaning.specs.Frames.{two_bytes, byte_of, digit_bytes}
use Rattle.meaning.specs.Frames.{Version, version1, version2, opening, line_of, write_rules, Write}
use Rattle.forms.proofs.Refusals.{first_at, first_none}
use Rattle.forms.proofs.Strings.{weight_le}
use Rattle.layout.specs.Wholes.{line_length}
use Rattle.layout.proofs.Frames.{line_length_is}
use Rattle.laws.proofs.Runs.{sets_front}
use Rattle.hexadecimal.proofs.Writing.{pair_then}

-- the fields of a line of version 2, stored one after the other
pub sparse_fields : (out : List ℕ) (k t n : ℕ) (body : List ℕ) {one two three four five : List ℕ} → one ≡ sets out 0 (pair opening []) → two ≡ sets one 2 (written (two_bytes k))
    → three ≡ sets two 6 (written (two_bytes t)) → four ≡ sets three 10 (written (two_bytes n)) → five ≡ sets four 14 (written body)
    → five ≡ sets out 0 (written (opening ∷ (two_bytes k ++ (two_bytes t ++ (two_bytes n ++ body)))))
unfolding written
sparse_fields out k t n body a b c d e =
    e
    ∙ ap (λ l. sets l 14 (written body))
    (d ∙ ap (λ l. sets l 10 (written (two_bytes n))) (c ∙ ap (λ l. sets l 6 (written (two_bytes t))) (b ∙ ap (λ l. sets l 2 (written (two_bytes k))) a)))

-- and of version 1
pub plain_fields : (out : List ℕ) (k t : ℕ) (body : List ℕ) {one two three four : List ℕ} → one ≡ sets out 0 (pair 0 []) → two ≡ sets one 2 (written (two_bytes k))
    → three ≡ sets two 6 (written (two_bytes t)) → four ≡ sets three 10 (written body) → four ≡ sets out 0 (written (0 ∷ (two_bytes k ++ (two_bytes t ++ body))))
unfolding written
plain_fields out k t body a b c d =
    d ∙ ap (λ l. sets l 10 (written body)) (c ∙ ap (λ l. sets l 6 (written (two_bytes t))) (b ∙ ap (λ l. sets l 2 (written (two_bytes k))) a))

-- the digits from i on, stored from the index that is theirs: one of them, and the others
pub digits_then : (out : List ℕ) (at : ℕ) (ds : List ℤ) (i : ℕ) → i < length ds
    → sets out (at + 2 * i) (written (digit_bytes (drop i ds)))
    ≡ sets (sets out (at + 2 * i) (pair (byte_of (get_or ds i (pos 0))) [])) (at + 2 * (i + 1)) (written (digit_bytes (drop (i + 1) ds)))
unfolding written digit_bytes
digits_then out at ds i h =
    let e : at + 2 * i + 2 ≡ at + 2 * (i + 1) = omega arith in
    let rest = written (digit_bytes (drop (i + 1) ds)) in
    let first = pair (byte_of (get_or ds i (pos 0))) in
    ap (λ l. sets out (at + 2 * i) (written (digit_bytes l))) (drop-cons ds i (pos 0) h ∙ ap (λ k. get_or ds i (pos 0) ∷ drop k ds) (sym (add-one i)))
    ∙ pair_then out (at + 2 * i) (byte_of (get_or ds i (pos 0))) rest
    ∙ ap (λ k. sets (sets out (at + 2 * i) (first [])) k rest) e

-- ---- what a writer answers
module _ (v : Version) (ds : List ℤ) (out : List ℕ) where
  abbrev rules : List Rule
  rules = write_rules v ds (length out)

  module _ (few : length ds ≤ most_places) where
    pub write_short : length out < line_length v ds → Write v ds out (record { refusal = 24; length = 0 }) out
    write_short h = record { first = first_at rules 1 0 ((λ l. omega arith), (omega (arith, line_length_is v ds), refl)); length_is = refl; out_is = refl }

    pub write_whole : line_length v ds ≤ length out → {n : ℕ} {out' : List ℕ} → n ≡ line_length v ds → out' ≡ sets out 0 (line_of v ds) → Write v ds out (record { refusal = 0; length = n }) out'
    write_whole h e f =
        record {
          first = first_none rules ((λ l. omega arith), ((λ l. omega (arith, line_length_is v ds)), tt));
          length_is = e ∙ sym (line_length_is v ds);
          out_is = f ∙ sets_front out (line_of v ds) (omega (arith, line_length_is v ds));
        }

-- a line has at most the characters of 529 nonzero digits
pub length_most : (v : Version) (ds : List ℤ) → length ds ≤ most_places → line_length v ds ≤ 14 + 6 * most_places
length_most version1 ds h = omega arith
length_most version2 ds h = omega (arith, weight_le ds)

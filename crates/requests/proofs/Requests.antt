-- Which lines are malformed, by the tests of code: the length, the characters, then the stated length. Assumes nothing.
use mathlib.Core.Path.{◌≡◌, refl, sym, subst}
use mathlib.Core.Bool.{Bool, true, false, not, ◌||◌}
use mathlib.Core.List.{List}
use Prim.Native.Nat.{ℕ, ◌+◌, ◌*◌, ◌/◌, ◌%◌, ◌<◌, ◌≤◌}
use native.Mathlib.Omega.{arith}
use native.Mathlib.Decide.{dec_le}
use lib.Dec.{T, T_not, eqb}
use lib.ListN.{length, get_or}
use borrow.Author.Tests.{lt-ltb, le-ltb, eq-eqb, ne_eqb}
use Rattle.meaning.specs.Hexadecimal.{nibble, all_hex}
use Rattle.meaning.specs.Requests.{most_characters, malformed}
use Rattle.hexadecimal.proofs.Characters.{bytes_count, byte_is}

or_true : (p : Bool) → p || true ≡ true
or_true true = refl
or_true false = refl

module _ (line : List ℕ) where
  -- under three bytes
  pub short : length line < 6 → malformed line ≡ true
  unfolding malformed
  short h = simp (bytes_count line, lt-ltb (length line / 2) 3 (omega arith), or_true)

  -- over the most characters
  pub long : most_characters < length line → malformed line ≡ true
  unfolding malformed
  long h = simp (lt-ltb most_characters (length line) h, or_true)

  -- of odd length
  pub odd : length line % 2 ≡ 1 → malformed line ≡ true
  unfolding malformed
  odd h = simp (eq-eqb (length line % 2) 1 h, or_true)

  -- holding another character
  pub strange : all_hex line ≡ false → malformed line ≡ true
  unfolding malformed
  strange h = simp (h, or_true)

  -- else it depends on the stated length
  pub stated : 6 ≤ length line → length line ≤ most_characters → (length line % 2 ≡ 1 → ⊥) → all_hex line ≡ true
      → malformed line ≡ not (eqb (length line / 2) (3 + (16 * nibble (get_or line 4 0) + nibble (get_or line 5 0))))
  unfolding malformed
  stated s l e a =
      simp (
        ne_eqb (length line) 0 (λ z. omega arith),
        le-ltb most_characters (length line) l,
        ne_eqb (length line % 2) 1 e,
        a,
        byte_is line 2 (omega arith),
        bytes_count line,
        le-ltb (length line / 2) 3 (omega arith),
      )

  -- ---- a frame is none of these
  module _ (frame : T (not (malformed line))) where
    no_frame : malformed line ≡ true → ⊥
    no_frame e = T_not (malformed line) frame (subst T (sym e) tt)

    pub frame_least : 6 ≤ length line
    frame_least = go (dec_le 6 (length line))
      where
        go : Dec (6 ≤ length line) → 6 ≤ length line
        go (yes h) = h
        go (no h) = absurd (no_frame (short (omega arith)))

    pub frame_most : length line ≤ most_characters
    frame_most = go (dec_le (length line) most_characters)
      where
        go : Dec (length line ≤ most_characters) → length line ≤ most_characters
        go (yes h) = h
        go (no h) = absurd (no_frame (long (omega arith)))

    pub frame_hex : T (all_hex line)
    frame_hex = go (all_hex line) refl
      where
        go : (b : Bool) → all_hex line ≡ b → T (all_hex line)
        go true e = subst T (sym e) tt
        go false e = absurd (no_frame (strange e))

-- The kind of a line, by the tests of code: its length, its characters, its first byte, then whether its parts are there. Assumes nothing.
use mathlib.Core.Path.{◌≡◌, refl, sym, ◌∙◌}
use mathlib.Core.Logic.{◌≢◌}
use mathlib.Core.Bool.{Bool, true, false, not, cond, ◌&&◌, ◌||◌}
use mathlib.Core.List.{List, [], ◌∷◌}
use Prim.Native.Nat.{ℕ, ◌-◌, ◌/◌, ◌%◌, ◌<◌, ◌≤◌}
use native.Mathlib.Omega.{arith}
use native.Mathlib.Decide.{dec_lt, ℕ_discrete}
use lib.Dec.{ltb, eqb}
use lib.ListN.{length, get_or}
use borrow.Author.Tests.{le-leb, lt-leb, lt-ltb, eq-eqb, ne_eqb}
use Rattle.meaning.specs.Hexadecimal.{all_hex, in_pairs, bytes_of}
use Rattle.meaning.specs.Frames.{opening, is_sparse, stated, lacking, unreadable}
use Rattle.hexadecimal.proofs.Characters.{bytes_count}
use Rattle.layout.specs.Wholes.{PlainFrame, SparseFrame}

and_false : (p : Bool) → p && false ≡ false
and_false true = refl
and_false false = refl

or_true : (p : Bool) → p || true ≡ true
or_true true = refl
or_true false = refl

module _ (line : List ℕ) where
  -- ---- no pairs
  unpaired : in_pairs line ≡ false → unreadable line ≡ true
  unfolding unreadable stated
  unpaired e = rw e

  odd : length line % 2 ≡ 1 → in_pairs line ≡ false
  unfolding in_pairs
  odd h = rw (ne_eqb (length line % 2) 0 (λ e. omega arith)) (and_false (all_hex line))

  unhex : all_hex line ≡ false → in_pairs line ≡ false
  unfolding in_pairs
  unhex e = rw e

  pub odd_strange : length line % 2 ≡ 1 → unreadable line ≡ true
  odd_strange h = unpaired (odd h)

  pub unhex_strange : all_hex line ≡ false → unreadable line ≡ true
  unhex_strange e = unpaired (unhex e)

  module _ (hex : all_hex line ≡ true) (even : length line % 2 ≡ 0) where
    pub pairs_are : in_pairs line ≡ true
    unfolding in_pairs
    pairs_are = rw (hex, eq-eqb (length line % 2) 0 even)

    -- ---- no refused line, and not opening as a frame does, or lacking a part
    strange : stated line ≡ 0 → not (is_sparse (bytes_of line) || eqb (get_or (bytes_of line) 0 0) 0) || lacking (bytes_of line) ≡ true → unreadable line ≡ true
    unfolding unreadable
    strange z e = rw (z, pairs_are) e

    pub other_stated : length line ≢ 2 → stated line ≡ 0
    unfolding stated
    other_stated n = rw (ne_eqb (length line) 2 n, and_false (in_pairs line))

    short : length line < 10 → lacking (bytes_of line) ≡ true
    unfolding lacking
    short h = go (is_sparse (bytes_of line))
      where
        n : ℕ
        n = length (bytes_of line)

        few : n < 5
        few = omega (arith, bytes_count line)

        go : (b : Bool) → cond b (ltb n 7 || not (eqb ((n - 7) % 3) 0)) (ltb n 5) ≡ true
        go true = rw (lt-ltb n 7 (omega (arith, few)))
        go false = lt-ltb n 5 few

    pub short_strange : stated line ≡ 0 → length line < 10 → unreadable line ≡ true
    short_strange z h = strange z (rw (short h) (or_true (not (is_sparse (bytes_of line) || eqb (get_or (bytes_of line) 0 0) 0))))

    empty_strange : length line ≡ 0 → unreadable line ≡ true
    empty_strange e = short_strange (other_stated (λ z. omega arith)) (omega arith)

    -- ---- by the first byte
    module _ (b : ℕ) (is : b ≡ get_or (bytes_of line) 0 0) where
      -- one byte
      module _ (one : length line ≡ 2) where
        none : b ≡ 0 → stated line ≡ 0
        unfolding stated
        none e = rw (pairs_are, eq-eqb (length line) 2 one, ← is, e)

        large : 16 < b → stated line ≡ 0
        unfolding stated
        large h = rw (pairs_are, eq-eqb (length line) 2 one, ← is, le-leb 1 b (omega arith), lt-leb b 16 h)

        struck : b ≡ 6 → stated line ≡ 0
        unfolding stated
        struck e = rw (pairs_are, eq-eqb (length line) 2 one, ← is, e)

        pub zero_strange : b ≡ 0 → unreadable line ≡ true
        zero_strange e = short_strange (none e) (omega arith)

        pub large_strange : 16 < b → unreadable line ≡ true
        large_strange h = short_strange (large h) (omega arith)

        pub struck_strange : b ≡ 6 → unreadable line ≡ true
        struck_strange e = short_strange (struck e) (omega arith)

        pub one_stated : b ≢ 0 → b ≤ 16 → b ≢ 6 → stated line ≡ b
        unfolding stated
        one_stated z h n = rw (pairs_are, eq-eqb (length line) 2 one, ← is, le-leb 1 b (omega arith), le-leb b 16 h, ne_eqb b 6 n)

      -- more
      module _ (more : length line ≢ 2) where
        sparse_is : b ≡ opening → is_sparse (bytes_of line) ≡ true
        unfolding is_sparse
        sparse_is e = eq-eqb (get_or (bytes_of line) 0 0) opening (sym is ∙ e)

        plain_is : b ≢ opening → is_sparse (bytes_of line) ≡ false
        unfolding is_sparse
        plain_is n = ne_eqb (get_or (bytes_of line) 0 0) opening (λ e. n (is ∙ e))

        pub sparse_short : b ≡ opening → length line / 2 < 7 → unreadable line ≡ true
        unfolding lacking
        sparse_short e h = strange (other_stated more) (rw (sparse_is e, lt-ltb (length (bytes_of line)) 7 (omega (arith, bytes_count line))))

        pub sparse_cut : b ≡ opening → (length line / 2 - 7) % 3 ≢ 0 → unreadable line ≡ true
        unfolding lacking
        sparse_cut e n =
            strange (other_stated more)
            (rw (sparse_is e, bytes_count line, ne_eqb ((length line / 2 - 7) % 3) 0 n) (or_true (ltb (length line / 2) 7)))

        pub sparse_frame : b ≡ opening → 7 ≤ length line / 2 → (length line / 2 - 7) % 3 ≡ 0 → SparseFrame line
        sparse_frame e l w =
            record {
              pairs = pairs_are;
              unstated = other_stated more;
              sparse = sparse_is e;
              long = omega (arith, bytes_count line);
              whole = rw (bytes_count line) w;
            }

        pub other_strange : b ≢ opening → b ≢ 0 → unreadable line ≡ true
        other_strange n z = strange (other_stated more) (rw (plain_is n, ne_eqb (get_or (bytes_of line) 0 0) 0 (λ e. z (is ∙ e))))

        pub plain_short : length line / 2 < 5 → unreadable line ≡ true
        plain_short h = short_strange (other_stated more) (omega arith)

        pub plain_frame : b ≢ opening → b ≡ 0 → 5 ≤ length line / 2 → PlainFrame line
        plain_frame n z l =
            record {
              pairs = pairs_are;
              unstated = other_stated more;
              plain = plain_is n;
              opens = sym is ∙ z;
              long = omega (arith, bytes_count line);
            }

      -- so a line of no kind is strange
      pub none_strange : (length line ≡ 2 → 1 ≤ b → b ≤ 16 → b ≢ 6 → ⊥) → (b ≡ opening → 7 ≤ length line / 2 → (length line / 2 - 7) % 3 ≢ 0) → (b ≡ 0 → length line / 2 < 5)
          → unreadable line ≡ true
      none_strange states sparse plain = go (ℕ_discrete (length line) 2)
        where
          one : length line ≡ 2 → Dec (b ≡ 0) → Dec (16 < b) → Dec (b ≡ 6) → unreadable line ≡ true
          one e (yes z) _ _ = zero_strange e z
          one e (no z) (yes l) _ = large_strange e l
          one e (no z) (no l) (yes s) = struck_strange e s
          one e (no z) (no l) (no s) = absurd (states e (omega arith) (omega arith) s)

          more : length line ≢ 2 → Dec (b ≡ opening) → Dec (b ≡ 0) → Dec (length line / 2 < 7) → unreadable line ≡ true
          more n (yes o) _ (yes s) = sparse_short n o s
          more n (yes o) _ (no s) = sparse_cut n o (sparse o (omega arith))
          more n (no o) (yes z) _ = plain_short n (plain z)
          more n (no o) (no z) _ = other_strange n o z

          go : Dec (length line ≡ 2) → unreadable line ≡ true
          go (yes e) = one e (ℕ_discrete b 0) (dec_lt 16 b) (ℕ_discrete b 6)
          go (no n) = more n (ℕ_discrete b opening) (ℕ_discrete b 0) (dec_lt (length line / 2) 7)

-- no characters at all
pub nothing_strange : (line : List ℕ) → length line ≡ 0 → unreadable line ≡ true
unfolding all_hex
nothing_strange [] e = empty_strange [] refl refl refl
nothing_strange (c ∷ cs) e = absurd (omega arith)

-- Letters' case along a line: whether one is small, and a line in capitals, from an index on. Assumes nothing.
use mathlib.Core.Path.{◌≡◌, refl, sym}
use mathlib.Core.Bool.{Bool, true, false, ◌||◌}
use mathlib.Core.List.{List, [], ◌∷◌}
use Prim.Native.Nat.{ℕ, zero, suc, ◌+◌, ◌<◌, ◌≤◌}
use native.Mathlib.Numerals.{add-one}
use native.Mathlib.Omega.{arith}
use lib.ListN.{length, get_or, drop, drop_of_length-le}
use lib.Seq.{drop-cons}
use Rattle.std.proofs.Common.{IsTrue, ◌↔◌, SomeIndex}
use Rattle.laws.proofs.Choices.{true_false}
use Rattle.meaning.specs.Hexadecimal.{between, raised, in_capitals, has_small}

or_true : (p : Bool) → p || true ≡ true
or_true true = refl
or_true false = refl

-- a line holds a small letter exactly if one stands at some index
small_at : (line : List ℕ) (i : ℕ) → i < length line → between 97 102 (get_or line i 0) ≡ true → has_small line ≡ true
unfolding has_small
small_at [] i h e = absurd (omega arith)
small_at (c ∷ cs) zero h e = rw e
small_at (c ∷ cs) (suc i) h e = rw (small_at cs i (omega arith) e) (or_true (between 97 102 c))

at_small : (line : List ℕ) → has_small line ≡ true → SomeIndex line (λ i. between 97 102 (get_or line i 0) ≡ true)
unfolding has_small
at_small [] e = absurd (true_false (sym e))
at_small (c ∷ cs) e = go (between 97 102 c) refl e (at_small cs)
  where
    go : (b : Bool) → between 97 102 c ≡ b → b || has_small cs ≡ true → (has_small cs ≡ true → SomeIndex cs (λ i. between 97 102 (get_or cs i 0) ≡ true))
        → SomeIndex (c ∷ cs) (λ i. between 97 102 (get_or (c ∷ cs) i 0) ≡ true)
    go true q e f = (0, omega arith, q)
    go false q e f = let (i, h, s) = f e in (suc i, omega arith, s)

pub small_some : (line : List ℕ) (r : Bool) → (IsTrue r ↔ SomeIndex line (λ i. between 97 102 (get_or line i 0) ≡ true)) → r ≡ has_small line
small_some line true e = let (i, h, s) = e.0 refl in sym (small_at line i h s)
small_some line false e = go (has_small line) refl
  where
    go : (b : Bool) → has_small line ≡ b → false ≡ b
    go true q = e.1 (at_small line q)
    go false q = refl

-- ---- a line in capitals
module _ (line : List ℕ) (i : ℕ) where
  pub capitals_from : i < length line → in_capitals (drop i line) ≡ raised (get_or line i 0) ∷ in_capitals (drop (i + 1) line)
  unfolding in_capitals
  capitals_from h = rw (add-one, drop-cons line i 0 h)

  pub capitals_none : length line ≤ i → in_capitals (drop i line) ≡ []
  unfolding in_capitals
  capitals_none h = rw (drop_of_length-le line h)

-- The words of a string's tape: how many there are, that a place further down only adds words, and which word the top gives.
-- Assumes nothing.
use mathlib.Core.Path.{◌≡◌, refl, ap, ◌∙◌, subst}
use mathlib.Core.Logic.{◌≢◌}
use mathlib.Core.List.{List, [], ◌∷◌, ◌++◌}
use Prim.Native.Nat.{ℕ, zero, suc, ◌+◌, ◌-◌, ◌<◌, ◌≤◌}
use native.Mathlib.Omega.{arith}
use lib.IntN.{ℤ, pos, negsuc}
use lib.ListN.{length, get_or, drop, length-append}
use Rattle.forms.proofs.Strings.{nonzero_le, nonzero_none, over_none, over_some, weight_le, top_le}
use Rattle.meaning.specs.Digits.{most_places, nonzero, weight, over, top}
use Rattle.meaning.specs.Words.{most_words, Sign, Step, double, load, add, word_of}
use Rattle.meaning.specs.Taping.{moves, down, tape_of}

-- ---- length
-- a digit's load or addition: one word, if it is nonzero
pub length_moves : (move : Sign → ℕ → Step) (d : ℤ) → length (moves move d) ≡ nonzero d
unfolding moves nonzero
length_moves move (pos zero) = refl
length_moves move (pos (suc n)) = refl
length_moves move (negsuc n) = refl

-- a string without a nonzero digit has no words; another has a load, and a double for each place under its top and an addition for each other nonzero digit
pub data Shape (ds : List ℤ) : Type 0 where
  none : weight ds ≡ 0 → top ds ≡ 0 → tape_of ds ≡ [] → Shape ds
  some : (x : ℕ) (xs : List ℕ) → 0 < weight ds → 0 < top ds → tape_of ds ≡ x ∷ xs → suc (length xs) ≡ (top ds - 1) + weight ds → Shape ds

-- every string is one of the two
pub shape : (ds : List ℤ) → Shape ds
unfolding weight top tape_of down moves nonzero
shape [] = none refl refl refl
shape (d ∷ ds) = go (shape ds)
  where
    start : (d : ℤ) → weight ds ≡ 0 → top ds ≡ 0 → tape_of ds ≡ [] → Shape (d ∷ ds)
    start (pos zero) a b e = none (omega arith) (over_none 0 (top ds) b) (ap (λ xs. down xs (pos zero)) e)
    start (pos (suc n)) a b e =
        some _ [] (omega arith) (omega (arith, over_none 1 (top ds) b)) (ap (λ xs. down xs (pos (suc n))) e)
        (omega (arith, over_none 1 (top ds) b))
    start (negsuc n) a b e =
        some _ [] (omega arith) (omega (arith, over_none 1 (top ds) b)) (ap (λ xs. down xs (negsuc n)) e)
        (omega (arith, over_none 1 (top ds) b))

    go : Shape ds → Shape (d ∷ ds)
    go (none a b e) = start d a b e
    go (some x xs a b e l) =
        let o = over_some (nonzero d) (top ds) b in
        some x (xs ++ (word_of double ∷ moves add d)) (omega arith) (omega (arith, o)) (ap (λ ys. down ys d) e)
        (omega (arith, o, length-append xs (word_of double ∷ moves add d), length_moves add d))

-- the words of a tape: top - 1 doubles, and a load or an addition for each nonzero digit; a zero string has none
pub tape_length : (ds : List ℤ) → length (tape_of ds) ≡ (top ds - 1) + weight ds
tape_length ds = go (shape ds)
  where
    go : Shape ds → length (tape_of ds) ≡ (top ds - 1) + weight ds
    go (none a b e) = omega (arith, ap length e)
    go (some x xs a b e l) = ap length e ∙ l

-- no nonzero digit, no words
pub tape_none : (ds : List ℤ) → weight ds ≡ 0 → tape_of ds ≡ []
tape_none ds h = go (shape ds)
  where
    go : Shape ds → tape_of ds ≡ []
    go (none a b e) = e
    go (some x xs a b e l) = absurd (omega arith)

-- so a string of at most 529 places has at most 1,057 words
pub tape_fits : (ds : List ℤ) → length ds ≤ most_places → length (tape_of ds) ≤ most_words
tape_fits ds h = omega (arith, tape_length ds, weight_le ds, top_le ds)

-- a place further down has no fewer words, so the tape of the upper places fits wherever the whole does
down_le : (xs : List ℕ) (d : ℤ) → length xs ≤ length (down xs d)
unfolding down
down_le [] d = omega arith
down_le (x ∷ xs) d = omega (arith, length-append xs (word_of double ∷ moves add d))

pub tape_drop : (i : ℕ) (ds : List ℤ) → length (tape_of (drop i ds)) ≤ length (tape_of ds)
unfolding tape_of
tape_drop zero ds = omega arith
tape_drop (suc i) [] = omega arith
tape_drop (suc i) (d ∷ ds) = omega (arith, tape_drop i ds, down_le (tape_of ds) d)

-- ---- the top
-- no top, no words; and a top, some words
pub tape_topless : (ds : List ℤ) → top ds ≡ 0 → tape_of ds ≡ []
tape_topless ds h = go (shape ds)
  where
    go : Shape ds → tape_of ds ≡ []
    go (none a b e) = e
    go (some x xs a b e l) = absurd (omega arith)

pub tape_some : (ds : List ℤ) → 0 < top ds → 0 < length (tape_of ds)
tape_some ds h = go (shape ds)
  where
    go : Shape ds → 0 < length (tape_of ds)
    go (none a b e) = absurd (omega arith)
    go (some x xs a b e l) = omega (arith, ap length e)

-- at the top stands a nonzero digit, and it gives the load
pub record AtTop (ds : List ℤ) (t : ℕ) : Type 0 where
  pub within : t < length ds
  pub some : get_or ds t (pos 0) ≢ pos 0
  pub load : tape_of (drop t ds) ≡ moves load (get_or ds t (pos 0))

pub at_top : (ds : List ℤ) (t : ℕ) → top ds ≡ suc t → AtTop ds t
unfolding top tape_of down
at_top [] t e = absurd (omega arith)
at_top (d ∷ ds) t e = go (top ds) refl t e (at_top ds)
  where
    above : {s : ℕ} → AtTop ds s → AtTop (d ∷ ds) (suc s)
    above h = record { within = omega (arith, h.within); some = h.some; load = h.load }

    go : (n : ℕ) → top ds ≡ n → (t : ℕ) → over (nonzero d) n ≡ suc t → ((s : ℕ) → top ds ≡ suc s → AtTop ds s) → AtTop (d ∷ ds) t
    go zero p zero q f =
        record { within = omega arith; some = λ z. omega (arith, nonzero_none z); load = ap (λ xs. down xs d) (tape_topless ds p) }
    go zero p (suc t) q f = absurd (omega (arith, nonzero_le d))
    go (suc n) p t q f = subst (AtTop (d ∷ ds)) (omega arith) (above (f n p))

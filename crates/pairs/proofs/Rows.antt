-- Two rows of digits and one string of columns are the same thing: what they are worth, that they are sparse, and how many nonzero columns there are.
-- Assumes nothing.
use mathlib.Core.Path.{◌≡◌, refl, sym, ap, ◌∙◌}
use mathlib.Core.Logic.{◌≢◌, ◌⊎◌, inl, inr}
use mathlib.Core.Bool.{Bool, true, false, not, ◌&&◌}
use mathlib.Core.List.{List, [], ◌∷◌}
use Prim.Native.Nat.{ℕ, zero, suc, ◌%◌, ◌≤◌}
use native.Mathlib.Omega.{arith}
use lib.Dec.{T, eqb, leb, eqb→eq, leb→le}
use lib.IntN.{ℤ, pos, negsuc, neg_ℤ, nat_abs, ◌+ℤ◌, ◌*ℤ◌}
use lib.ListN.{length}
use Rattle.laws.proofs.Integers.{up}
use Rattle.laws.proofs.Choices.{and_both, and_of, or_either}
use Rattle.meaning.specs.Digits.{in_set, all_in, nonzero}
use Rattle.meaning.specs.Digits as Digits
use Rattle.meaning.specs.Joint.{largest_in_row, digit_in, Empty, Gap, Neighbours, Calm, Sparse, column, columns_of}
use Rattle.pairs.specs.Columns.{D, neg, nil, one, Col, fst, snd, val, off, row}
use Rattle.pairs.proofs.Tested.{both, left, right, when, then}
use Rattle.pairs.proofs.Form.{worth, busy, weight}
use Rattle.pairs.proofs.Regular.{some, same, full, gap, calm, turn, at, Regular}

-- ---- a digit and its integer
-- the digit of an integer
unfoldable pub digit_of : ℤ → D
digit_of (pos zero) = nil
digit_of (pos (suc n)) = one
digit_of (negsuc n) = neg

pub digit_back : (d : D) → digit_of (val d) ≡ d
unfolding digit_of val
digit_back neg = refl
digit_back nil = refl
digit_back one = refl

-- a digit of a row is at most 1 in size
small : (x : ℤ) → T (in_set largest_in_row x) → nat_abs x ≤ 1
unfolding in_set
small x t = go (or_either (eqb (nat_abs x) 0) (eqb (nat_abs x % 2) 1 && leb (nat_abs x) 1) t)
  where
    go : T (eqb (nat_abs x) 0) ⊎ T (eqb (nat_abs x % 2) 1 && leb (nat_abs x) 1) → nat_abs x ≤ 1
    go (inl z) = omega (arith, eqb→eq (nat_abs x) 0 z)
    go (inr z) = leb→le (nat_abs x) 1 (and_both (eqb (nat_abs x % 2) 1) (leb (nat_abs x) 1) z).1

-- so it is its digit's integer
pub digit_is : (x : ℤ) → T (in_set largest_in_row x) → val (digit_of x) ≡ x
unfolding digit_of val
digit_is (pos zero) t = refl
digit_is (pos (suc zero)) t = refl
digit_is (pos (suc (suc n))) t = absurd (omega (arith, small (pos (suc (suc n))) t))
digit_is (negsuc zero) t = refl
digit_is (negsuc (suc n)) t = absurd (omega (arith, small (negsuc (suc n)) t))

pub val_in : (d : D) → T (in_set largest_in_row (val d))
unfolding val in_set
val_in neg = tt
val_in nil = tt
val_in one = tt

-- nonzero digits
some_of : (d : D) → T (some d) → val d ≢ pos 0
unfolding some val
some_of neg t e = absurd (omega (arith, ap nat_abs e))
some_of nil t e = t
some_of one t e = absurd (omega (arith, ap nat_abs e))

of_some : (d : D) → val d ≢ pos 0 → T (some d)
unfolding some val
of_some neg n = tt
of_some nil n = n refl
of_some one n = tt

none_of : (d : D) → val d ≡ pos 0 → T (not (some d))
unfolding some val
none_of neg e = absurd (omega (arith, ap nat_abs e))
none_of nil e = tt
none_of one e = absurd (omega (arith, ap nat_abs e))

of_none : (d : D) → T (not (some d)) → val d ≡ pos 0
unfolding some val
of_none neg t = absurd t
of_none nil t = refl
of_none one t = absurd t

-- two nonzero digits that are not opposite are one
same_of : (x y : D) → T (some x) → T (some y) → val y ≢ neg_ℤ (val x) → T (same x y)
unfolding some same val off
same_of neg neg s t n = tt
same_of neg nil s t n = absurd t
same_of neg one s t n = absurd (n refl)
same_of nil y s t n = absurd s
same_of one neg s t n = absurd (n refl)
same_of one nil s t n = absurd t
same_of one one s t n = tt

of_same : (x y : D) → T (some x) → T (same x y) → val y ≢ neg_ℤ (val x)
unfolding some same val off up
of_same neg neg s t e = omega (arith, ap up e)
of_same neg nil s t e = t
of_same neg one s t e = t
of_same nil y s t e = s
of_same one neg s t e = t
of_same one nil s t e = t
of_same one one s t e = omega (arith, ap up e)

-- ---- tests
when_of : (a b : Bool) → (T a → T b) → T (when a b)
unfolding when
when_of true b f = f tt
when_of false b f = tt

both_of : (a b : Bool) → T a → T b → T (both a b)
unfolding both
both_of true b s t = t
both_of false b s t = s

-- a column is empty, or it is full
not_full : (x y : D) → T (not (some x)) → T (not (some y)) → T (not (full (x, y)))
unfolding full some
not_full neg y s t = absurd s
not_full nil y s t = t
not_full one y s t = absurd s

of_not_full : (x y : D) → T (not (full (x, y))) → T (not (some x)) × T (not (some y))
unfolding full some
of_not_full neg y t = absurd t
of_not_full nil y t = (tt, t)
of_not_full one y t = absurd t

gap_of : (a b c : Bool) → T (not a) ⊎ (T (not b) ⊎ T (not c)) → T (not (both a (both b c)))
unfolding both
gap_of true true true (inl t) = t
gap_of true true true (inr (inl t)) = t
gap_of true true true (inr (inr t)) = t
gap_of true true false h = tt
gap_of true false c h = tt
gap_of false b c h = tt

of_gap : (a b c : Bool) → T (not (both a (both b c))) → T (not a) ⊎ (T (not b) ⊎ T (not c))
unfolding both
of_gap true true c t = inr (inr t)
of_gap true false c t = inr (inl tt)
of_gap false b c t = inl tt

-- ---- the rows of a string of columns
pub row_length : (side : Col → D) (cs : List Col) → length (row side cs) ≡ length cs
unfolding row
row_length side [] = refl
row_length side (c ∷ cs) = ap suc (row_length side cs)

pub row_in : (side : Col → D) (cs : List Col) → T (all_in largest_in_row (row side cs))
unfolding row all_in
row_in side [] = tt
row_in side (c ∷ cs) = and_of (in_set largest_in_row (val (side c))) (all_in largest_in_row (row side cs)) (val_in (side c)) (row_in side cs)

pub row_worth : (side : Col → D) (cs : List Col) → Digits.worth (row side cs) ≡ worth side cs
unfolding row worth Digits.worth
row_worth side [] = refl
row_worth side (c ∷ cs) = ap (λ z. val (side c) +ℤ pos 2 *ℤ z) (row_worth side cs)

pub row_at : (side : Col → D) → side (nil, nil) ≡ nil → (cs : List Col) (i : ℕ) → digit_in (row side cs) i ≡ val (side (at cs i))
unfolding row at val
row_at side z [] i = rw z
row_at side z (c ∷ cs) zero = refl
row_at side z (c ∷ cs) (suc i) = row_at side z cs i

-- ---- the columns of two rows
unfoldable pub merge : List ℤ → List ℤ → List Col
merge [] [] = []
merge [] (y ∷ ys) = (nil, digit_of y) ∷ merge [] ys
merge (x ∷ xs) [] = (digit_of x, nil) ∷ merge xs []
merge (x ∷ xs) (y ∷ ys) = (digit_of x, digit_of y) ∷ merge xs ys

-- the digits at a place
abbrev shown : List ℤ → ℕ → D
shown ds i = digit_of (digit_in ds i)

pub merge_at : (us vs : List ℤ) (i : ℕ) → at (merge us vs) i ≡ (shown us i, shown vs i)
unfolding merge at digit_of
merge_at [] [] i = refl
merge_at [] (y ∷ ys) zero = refl
merge_at [] (y ∷ ys) (suc i) = merge_at [] ys i
merge_at (x ∷ xs) [] zero = refl
merge_at (x ∷ xs) [] (suc i) = merge_at xs [] i
merge_at (x ∷ xs) (y ∷ ys) zero = refl
merge_at (x ∷ xs) (y ∷ ys) (suc i) = merge_at xs ys i

-- the digits of a row that are shown are the row's
pub shown_is : (ds : List ℤ) → T (all_in largest_in_row ds) → (i : ℕ) → val (shown ds i) ≡ digit_in ds i
unfolding all_in digit_of val
shown_is [] t i = refl
shown_is (d ∷ ds) t zero = digit_is d (and_both (in_set largest_in_row d) (all_in largest_in_row ds) t).0
shown_is (d ∷ ds) t (suc i) = shown_is ds (and_both (in_set largest_in_row d) (all_in largest_in_row ds) t).1 i

-- what the rows are worth
none_first : (ys : List ℤ) → worth fst (merge [] ys) ≡ pos 0
unfolding merge worth val
none_first [] = refl
none_first (y ∷ ys) = ap (λ w. pos 0 +ℤ pos 2 *ℤ w) (none_first ys)

none_second : (xs : List ℤ) → worth snd (merge xs []) ≡ pos 0
unfolding merge worth val
none_second [] = refl
none_second (x ∷ xs) = ap (λ w. pos 0 +ℤ pos 2 *ℤ w) (none_second xs)

pub merge_first : (us vs : List ℤ) → T (all_in largest_in_row us) → worth fst (merge us vs) ≡ Digits.worth us
unfolding merge worth Digits.worth all_in
merge_first [] vs t = none_first vs
merge_first (x ∷ xs) [] t =
    let (s, r) = and_both (in_set largest_in_row x) (all_in largest_in_row xs) t in
    rw (digit_is x s) (ap (λ z. x +ℤ pos 2 *ℤ z) (merge_first xs [] r))
merge_first (x ∷ xs) (y ∷ ys) t =
    let (s, r) = and_both (in_set largest_in_row x) (all_in largest_in_row xs) t in
    rw (digit_is x s) (ap (λ z. x +ℤ pos 2 *ℤ z) (merge_first xs ys r))

pub merge_second : (us vs : List ℤ) → T (all_in largest_in_row vs) → worth snd (merge us vs) ≡ Digits.worth vs
unfolding merge worth Digits.worth all_in
merge_second us [] t = none_second us
merge_second [] (y ∷ ys) t =
    let (s, r) = and_both (in_set largest_in_row y) (all_in largest_in_row ys) t in
    rw (digit_is y s) (ap (λ z. y +ℤ pos 2 *ℤ z) (merge_second [] ys r))
merge_second (x ∷ xs) (y ∷ ys) t =
    let (s, r) = and_both (in_set largest_in_row y) (all_in largest_in_row ys) t in
    rw (digit_is y s) (ap (λ z. y +ℤ pos 2 *ℤ z) (merge_second xs ys r))

-- how many columns are nonzero
busy_is : (x y : ℤ) → busy (digit_of x) (digit_of y) ≡ nonzero (column x y)
unfolding busy digit_of nonzero column
busy_is (pos zero) (pos zero) = refl
busy_is (pos zero) (pos (suc m)) = refl
busy_is (pos zero) (negsuc m) = refl
busy_is (pos (suc n)) (pos zero) = refl
busy_is (pos (suc n)) (pos (suc m)) = refl
busy_is (pos (suc n)) (negsuc m) = refl
busy_is (negsuc n) (pos zero) = refl
busy_is (negsuc n) (pos (suc m)) = refl
busy_is (negsuc n) (negsuc m) = refl

pub merge_weight : (us vs : List ℤ) → weight (merge us vs) ≡ Digits.weight (columns_of us vs)
unfolding merge weight Digits.weight columns_of digit_of
merge_weight [] [] = refl
merge_weight [] (y ∷ ys) = omega (arith, busy_is (pos 0) y, merge_weight [] ys)
merge_weight (x ∷ xs) [] = omega (arith, busy_is x (pos 0), merge_weight xs [])
merge_weight (x ∷ xs) (y ∷ ys) = omega (arith, busy_is x y, merge_weight xs ys)

-- a string's rows, merged, and two rows' string, taken apart
pub merge_rows : (cs : List Col) → merge (row fst cs) (row snd cs) ≡ cs
unfolding merge row
merge_rows [] = refl
merge_rows ((x, y) ∷ cs) = rw (digit_back x, digit_back y) (ap (λ t. (x, y) ∷ t) (merge_rows cs))

pub rows_merge : (us vs : List ℤ) → length us ≡ length vs → T (all_in largest_in_row us) → T (all_in largest_in_row vs) → (row fst (merge us vs) ≡ us) × (row snd (merge us vs) ≡ vs) × (length (merge us vs) ≡ length us)
unfolding merge row all_in
rows_merge [] [] l s t = (refl, refl, refl)
rows_merge [] (y ∷ ys) l s t = absurd (omega arith)
rows_merge (x ∷ xs) [] l s t = absurd (omega arith)
rows_merge (x ∷ xs) (y ∷ ys) l s t =
    let (s₀, s₁) = and_both (in_set largest_in_row x) (all_in largest_in_row xs) s in
    let (t₀, t₁) = and_both (in_set largest_in_row y) (all_in largest_in_row ys) t in
    let (p, q, m) = rows_merge xs ys (omega arith) s₁ t₁ in
    (rw (digit_is x s₀) (ap (λ z. x ∷ z) p), rw (digit_is y t₀) (ap (λ z. y ∷ z) q), ap suc m)

-- ---- sparse rows, and a regular string
module _ (us vs : List ℤ) (s : T (all_in largest_in_row us)) (t : T (all_in largest_in_row vs)) where
  empty_of : (i : ℕ) → Empty us vs i → T (not (full (at (merge us vs) i)))
  empty_of i e =
      rw (merge_at us vs i)
      (not_full (shown us i) (shown vs i) (none_of (shown us i) (shown_is us s i ∙ e.first)) (none_of (shown vs i) (shown_is vs t i ∙ e.second)))

  calm_of : (i : ℕ) → Calm us vs i → T (calm (shown us i) (shown us (suc i)) (shown vs i) (shown vs (suc i)))
  unfolding calm
  calm_of i c =
      when_of _ _
      (λ h.
      let l = left _ _ h in
      let r = right _ _ h in
      let n : Neighbours us i = record { lower = λ e. some_of (shown us i) l (shown_is us s i ∙ e); higher = λ e. some_of (shown us (suc i)) r (shown_is us s (suc i) ∙ e) } in
      both_of _ _ (same_of (shown us i) (shown us (suc i)) l r (λ e. c.signs n (sym (shown_is us s (suc i)) ∙ e ∙ ap neg_ℤ (shown_is us s i))))
      (both_of _ _ (none_of (shown vs i) (shown_is vs t i ∙ c.lower n)) (of_some (shown vs (suc i)) (λ e. c.higher n (sym (shown_is vs t (suc i)) ∙ e)))))

pub regular_of : (us vs : List ℤ) → T (all_in largest_in_row us) → T (all_in largest_in_row vs) → Sparse us vs → Regular (merge us vs)
unfolding gap turn
regular_of us vs s t S =
    record {
      gaps = λ i. gap_of (full (at (merge us vs) i)) (full (at (merge us vs) (suc i))) (full (at (merge us vs) (suc (suc i)))) (empties i (S.gaps i));
      turns = λ i. rw (merge_at us vs i, merge_at us vs (suc i)) (both_of _ _ (calm_of us vs s t i (S.first i)) (calm_of vs us t s i (S.second i)));
    }
  where
    empties : (i : ℕ) → Gap us vs i → T (not (full (at (merge us vs) i))) ⊎ (T (not (full (at (merge us vs) (suc i)))) ⊎ T (not (full (at (merge us vs) (suc (suc i))))))
    empties i (inl e) = inl (empty_of us vs s t i e)
    empties i (inr (inl e)) = inr (inl (empty_of us vs s t (suc i) e))
    empties i (inr (inr e)) = inr (inr (empty_of us vs s t (suc (suc i)) e))

-- and back
of_calm : (side other : Col → D) → side (nil, nil) ≡ nil → other (nil, nil) ≡ nil → (cs : List Col) (i : ℕ)
    → T (calm (side (at cs i)) (side (at cs (suc i))) (other (at cs i)) (other (at cs (suc i)))) → Calm (row side cs) (row other cs) i
unfolding calm
of_calm side other z o cs i h =
    record {
      signs = λ n e. of_same _ _ (lower n) (left _ _ (holds n)) (sym (row_at side z cs (suc i)) ∙ e ∙ ap neg_ℤ (row_at side z cs i));
      higher = λ n e. some_of _ (right _ _ (right _ _ (holds n))) (sym (row_at other o cs (suc i)) ∙ e);
      lower = λ n. row_at other o cs i ∙ of_none _ (left _ _ (right _ _ (holds n)));
    }
  where
    lower : Neighbours (row side cs) i → T (some (side (at cs i)))
    lower n = of_some (side (at cs i)) (λ e. n.lower (row_at side z cs i ∙ e))

    holds : Neighbours (row side cs) i → T (both (same (side (at cs i)) (side (at cs (suc i)))) (both (not (some (other (at cs i)))) (some (other (at cs (suc i))))))
    holds n = then _ _ h (both_of _ _ (lower n) (of_some (side (at cs (suc i))) (λ e. n.higher (row_at side z cs (suc i) ∙ e))))

pub sparse_of : (cs : List Col) → Regular cs → Sparse (row fst cs) (row snd cs)
unfolding gap turn
sparse_of cs R =
    record {
      gaps = λ i. empties i (of_gap (full (at cs i)) (full (at cs (suc i))) (full (at cs (suc (suc i)))) (R.gaps i));
      first = λ i. of_calm fst snd refl refl cs i (left _ _ (R.turns i));
      second = λ i. of_calm snd fst refl refl cs i (right _ _ (R.turns i));
    }
  where
    empty : (i : ℕ) → T (not (full (at cs i))) → Empty (row fst cs) (row snd cs) i
    empty i f =
        let (x, y) = of_not_full (fst (at cs i)) (snd (at cs i)) f in
        record { first = row_at fst refl cs i ∙ of_none _ x; second = row_at snd refl cs i ∙ of_none _ y }

    empties : (i : ℕ) → T (not (full (at cs i))) ⊎ (T (not (full (at cs (suc i)))) ⊎ T (not (full (at cs (suc (suc i)))))) → Gap (row fst cs) (row snd cs) i
    empties i (inl f) = inl (empty i f)
    empties i (inr (inl f)) = inr (inl (empty (suc i) f))
    empties i (inr (inr f)) = inr (inr (empty (suc (suc i)) f))

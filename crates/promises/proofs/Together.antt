-- Two scalars together, from the promises of the two calls alone: the tape of two rows leaves what the rows are worth; the run of an accepted call's tape is refused only for the modulus
-- or the room for the entries; an accepted one reaches a g + b h modulo m, and does the doublings and additions that the call tells. Assumes nothing.
use mathlib.Core.Path.{◌≡◌, refl, sym, ap, ◌∙◌, subst}
use mathlib.Core.Logic.{◌≢◌, inl}
use mathlib.Core.List.{List, [], ◌∷◌}
use Prim.Native.Nat.{ℕ, ◌<◌, ◌≤◌}
use native.Mathlib.Omega.{arith}
use lib.Dec.{T, lit<, lit≤}
use lib.IntN.{ℤ, pos, ◌+ℤ◌, ◌*ℤ◌, +ℤ_idr, +ℤ_comm}
use lib.ListN.{length, get_or, take, drop}
use lib.Seq.{take-append_seam}
use Rattle.laws.proofs.Choices.{and_both, not_below}
use Rattle.meaning.specs.Scalars.{Order, number}
use Rattle.meaning.specs.Digits.{largest, in_set, all_in, worth}
use Rattle.meaning.specs.Words.{most_words, double, load, add, step_of, word_of}
use Rattle.meaning.specs.Walks.{taken, walked, walk, doublings, additions, Good}
use Rattle.meaning.specs.Taping.{moves, down, tape_of}
use Rattle.meaning.specs.Running.{Residue, Ran}
use Rattle.meaning.specs.Joint.{largest_in_row, column, columns_of}
use Rattle.meaning.specs.Joining.{joint_rules, Buffers, Rowed}
use Rattle.meaning.specs.JointRunning.{Pair, pairs, joint_count, pair_at, columns, pair_value, jointly, run_joint_rules, RunJoint}
use Rattle.forms.proofs.Refusals.{first_only, first_none, clear, granted_all}
use Rattle.walk.proofs.Walk.{walked_append}
use Rattle.walk.proofs.Lengths.{Shape, none, some, shape, tape_fits}
use Rattle.walk.proofs.Tapes.{Faithful, faithful, tape_good}
use Rattle.pairs.specs.Columns.{D, neg, nil, one, val}
use Rattle.pairs.proofs.Rows.{digit_of, digit_is}
use Rattle.pairs.proofs.Columns.{column_width, columns_in, columns_length}
use Rattle.promises.proofs.Joint.{Outcome, Keeps, rowed}

-- ---- the walk of the columns of two rows
-- a pair
abbrev pair : ℤ → ℤ → Pair
pair x y = record { first = x; second = y }

-- the words of a column that starts the tape, and of one that follows a double
loaded : (d e : D) → walk pairs columns (moves load (column (val d) (val e))) ≡ pair (val d) (val e)
unfolding walked taken step_of moves column pair_at val
loaded neg neg = refl
loaded neg nil = refl
loaded neg one = refl
loaded nil neg = refl
loaded nil nil = refl
loaded nil one = refl
loaded one neg = refl
loaded one nil = refl
loaded one one = refl

added : (p : Pair) (d e : D) → walked pairs columns p (moves add (column (val d) (val e))) ≡ pair (p.first +ℤ val d) (p.second +ℤ val e)
unfolding walked taken step_of moves column pair_at val
added p neg neg = refl
added p neg nil = refl
added p neg one = refl
added p nil neg = refl
added p nil nil = sym (ap (λ x. pair x (p.second +ℤ pos 0)) (+ℤ_idr p.first) ∙ ap (pair p.first) (+ℤ_idr p.second))
added p nil one = refl
added p one neg = refl
added p one nil = refl
added p one one = refl

-- the same of digits of rows
module _ (x y : ℤ) (s : T (in_set largest_in_row x)) (t : T (in_set largest_in_row y)) where
  loads_column : walk pairs columns (moves load (column x y)) ≡ pair x y
  loads_column = rw (← digit_is x s, ← digit_is y t) (loaded (digit_of x) (digit_of y))

  adds_column : (p : Pair) → walked pairs columns p (moves add (column x y)) ≡ pair (p.first +ℤ x) (p.second +ℤ y)
  adds_column p = rw (← digit_is x s, ← digit_is y t) (added p (digit_of x) (digit_of y))

  -- one place under the others
  lower : (ds : List ℤ) (A B : ℤ) → walk pairs columns (tape_of ds) ≡ pair A B → walk pairs columns (tape_of (column x y ∷ ds)) ≡ pair (x +ℤ pos 2 *ℤ A) (y +ℤ pos 2 *ℤ B)
  unfolding tape_of down walked taken step_of
  lower ds A B h = go (shape ds)
    where
      go : Shape ds → walk pairs columns (down (tape_of ds) (column x y)) ≡ pair (x +ℤ pos 2 *ℤ A) (y +ℤ pos 2 *ℤ B)
      go (none a b e) =
          let z : pair (pos 0) (pos 0) ≡ pair A B = ap (walk pairs columns) (sym e) ∙ h in
          ap (λ ws. walk pairs columns (down ws (column x y))) e ∙ loads_column
          ∙ sym (ap (λ u. pair u (y +ℤ pos 0)) (+ℤ_idr x) ∙ ap (pair x) (+ℤ_idr y))
          ∙ ap (λ q. pair (x +ℤ pos 2 *ℤ q.first) (y +ℤ pos 2 *ℤ q.second)) z
      go (some w ws a b e l) =
          let z : walk pairs columns (w ∷ ws) ≡ pair A B = ap (walk pairs columns) (sym e) ∙ h in
          ap (λ ws. walk pairs columns (down ws (column x y))) e ∙ walked_append pairs columns pairs.none (w ∷ ws) (word_of double ∷ moves add (column x y))
          ∙ ap (λ q. walked pairs columns q (word_of double ∷ moves add (column x y))) z
          ∙ adds_column (pair (pos 2 *ℤ A) (pos 2 *ℤ B))
          ∙ ap (λ u. pair u (pos 2 *ℤ B +ℤ y)) (+ℤ_comm (pos 2 *ℤ A) x) ∙ ap (pair (x +ℤ pos 2 *ℤ A)) (+ℤ_comm (pos 2 *ℤ B) y)

-- by the places from the top down
pub walk_rows : (us vs : List ℤ) → T (all_in largest_in_row us) → T (all_in largest_in_row vs) → pair_value (tape_of (columns_of us vs)) ≡ pair (worth us) (worth vs)
unfolding columns_of all_in worth
walk_rows [] [] s t = unfold tape_of walked in refl
walk_rows [] (y ∷ ys) s t =
    let (t₀, t₁) = and_both (in_set largest_in_row y) (all_in largest_in_row ys) t in
    lower (pos 0) y (unfold in_set in tt) t₀ (columns_of [] ys) (pos 0) (worth ys) (walk_rows [] ys s t₁)
walk_rows (x ∷ xs) [] s t =
    let (s₀, s₁) = and_both (in_set largest_in_row x) (all_in largest_in_row xs) s in
    lower x (pos 0) s₀ (unfold in_set in tt) (columns_of xs []) (worth xs) (pos 0) (walk_rows xs [] s₁ t)
walk_rows (x ∷ xs) (y ∷ ys) s t =
    let (s₀, s₁) = and_both (in_set largest_in_row x) (all_in largest_in_row xs) s in
    let (t₀, t₁) = and_both (in_set largest_in_row y) (all_in largest_in_row ys) t in
    lower x y s₀ t₀ (columns_of xs ys) (worth xs) (worth ys) (walk_rows xs ys s₁ t₁)

-- ---- an accepted call
module _ {o : Order} {a b : List ℕ} {lent : Buffers} {x : Outcome} (K : Keeps o a b lent x) (z : x.joined.refusal ≡ 0) where
  abbrev R : Rowed o a b lent x.joined x.left
  R = rowed o a b lent x K z

  -- the columns, and the tape that stands in the buffer
  abbrev cs : List ℤ
  cs = columns_of R.first R.second

  abbrev pub tape : List ℕ
  tape = take x.joined.words x.left.words

  tape_is : tape ≡ tape_of cs
  tape_is = ap (λ k. take k x.left.words) R.count_is ∙ ap (take (length (tape_of cs))) R.words_are ∙ take-append_seam (tape_of cs) (drop (length (tape_of cs)) lent.words)

  faith : Faithful (largest column_width) (lit≤ tt) (lit< tt) cs
  faith = faithful (largest column_width) (lit≤ tt) (lit< tt) cs (columns_in R.first R.second)

  -- it leaves the two scalars
  pub tape_pair : pair_value tape ≡ pair (pos (number o a)) (pos (number o b))
  tape_pair =
      let F = R.formed.rows in
      ap pair_value tape_is ∙ walk_rows R.first R.second F.first_in F.second_in
      ∙ ap (λ u. pair u (worth R.second)) F.first_worth ∙ ap (pair (pos (number o a))) F.second_worth

  -- its words are good and not too many
  pub tape_words : (i : ℕ) → i < length tape → Good joint_count i (get_or tape i 0)
  tape_words i l =
      subst (λ ws. Good joint_count i (get_or ws i 0)) (sym tape_is)
      (tape_good (largest column_width) (lit≤ tt) (lit< tt) cs (columns_in R.first R.second) i (omega (arith, ap length tape_is)))

  pub tape_short : length tape ≤ most_words
  tape_short =
      let F = R.formed in
      let (long, _) = clear (joint_rules o a b (length lent.first) (length lent.second) (length lent.words)) tt _ _ K.rules z in
      let n = columns_length R.first R.second (F.second_length ∙ sym F.first_length) in
      let few = not_below (λ l. long (inl l)) in
      omega (arith, ap length tape_is, tape_fits cs (omega (arith, n, F.first_length, few)))

  -- it counts what the call tells
  pub tape_doubles : doublings tape ≡ x.joined.doublings
  tape_doubles = ap doublings tape_is ∙ faith.doublings_are ∙ sym R.doublings_are

  pub tape_adds : additions tape ≡ x.joined.additions
  tape_adds = ap additions tape_is ∙ faith.additions_are ∙ sym R.additions_are

  module _ {m g h : ℕ} {entries₀ entries : List ℕ} {r : Ran} (L : RunJoint tape m g h entries₀ r entries) where
    -- its run is refused for a modulus 0 or too little room alone
    pub together_accepted : m ≢ 0 → joint_count ≤ length entries₀ → r.refusal ≡ 0
    together_accepted positive room =
        (first_only (run_joint_rules tape m (length entries₀)) L.first
        (first_none (run_joint_rules tape m (length entries₀)) (positive, ((λ l. omega (arith, tape_short)), ((λ l. omega arith), ((λ p w. w.bad (tape_words p w.within)), tt)))))).0

    module _ (e : r.refusal ≡ 0) where
      -- a g + b h modulo m
      pub together_gives : Residue m (pos (number o a) *ℤ pos g +ℤ pos (number o b) *ℤ pos h) r.residue
      together_gives = subst (λ p. Residue m (jointly (pos g) (pos h) p) r.residue) tape_pair (L.residue_is e)

      -- and the steps that are told
      pub together_doubles : r.doublings ≡ x.joined.doublings
      together_doubles = L.doublings_are ∙ granted_all r.refusal (doublings tape) e ∙ tape_doubles

      pub together_adds : r.additions ≡ x.joined.additions
      together_adds = L.additions_are ∙ granted_all r.refusal (additions tape) e ∙ tape_adds

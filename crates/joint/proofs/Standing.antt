-- Where a pass over the places of the form stands: what remains of the two numbers at place i makes up the rest of the form, so the digits found there are
-- the form's. Assumes nothing.
use mathlib.Core.Path.{◌≡◌, refl, sym, ap, ◌∙◌}
use mathlib.Core.List.{List, [], ◌∷◌}
use Prim.Native.Nat.{ℕ, zero, suc, ◌+◌, ◌-◌, ◌/◌, ◌^◌, ◌≤◌, ◌<◌}
use native.Mathlib.Nat.{div-one, add-zero}
use native.Mathlib.Omega.{arith}
use lib.ListN.{length, drop}
use lib.Seq.{drop-drop}
use Rattle.meaning.specs.Joint.{digit_in, column}
use Rattle.pairs.specs.Columns.{Col, fst, snd, val, row, dig_n, next_n, jsf_n}
use Rattle.pairs.proofs.Regular.{at}
use Rattle.pairs.proofs.Rows.{row_at, row_length}
use Rattle.pairs.proofs.Columns.{columns_at, columns_length}
use Rattle.joint.specs.declared.Turn.{Turn}
use Rattle.joint.specs.Places.{remains, Placed, columns_in}

-- the form's length
pub form_length : (k a b : ℕ) → length (jsf_n k a b) ≡ k
unfolding jsf_n
form_length zero a b = refl
form_length (suc k) a b = ap suc (form_length k (next_n a b) (next_n b a))

-- the first column of what is left of a string
at_drop : (i : ℕ) (cs : List Col) (c : Col) (ds : List Col) → drop i cs ≡ c ∷ ds → at cs i ≡ c
unfolding at
at_drop zero [] c ds e = absurd (omega (arith, ap length e))
at_drop (suc i) [] c ds e = absurd (omega (arith, ap length e))
at_drop zero (x ∷ cs) c ds e = ap (λ xs. at xs 0) e
at_drop (suc i) (x ∷ cs) c ds e = at_drop i cs c ds e

module _ (A B n : ℕ) where
  abbrev form : List Col
  form = jsf_n (suc n) A B

  -- the rest of the form from place i on
  pub record Standing (i c d : ℕ) : Type 0 where
    pub within : i ≤ suc n
    pub carry_few : c ≤ 1
    pub other_few : d ≤ 1
    pub rest : drop i form ≡ jsf_n (suc n - i) (remains A i c) (remains B i d)

  -- all of it at place 0
  pub stands_none : Standing 0 0 0
  stands_none =
      let whole : (N : ℕ) → N ≡ remains N 0 0 = λ N. sym (add-zero (N / 2 ^ 0) ∙ div-one N) in
      let k : suc n ≡ suc n - 0 = omega arith in
      record {
        within = omega arith;
        carry_few = omega arith;
        other_few = omega arith;
        rest = ap (λ k. jsf_n k A B) k ∙ ap (λ a. jsf_n (suc n - 0) a B) (whole A) ∙ ap (jsf_n (suc n - 0) (remains A 0 0)) (whole B);
      }

  module _ (i c d : ℕ) (s : Standing i c d) (l : i < suc n) where
    abbrev x : ℕ
    x = remains A i c

    abbrev y : ℕ
    y = remains B i d

    -- its first column and what comes after it
    opened : drop i form ≡ (dig_n x y, dig_n y x) ∷ jsf_n (n - i) (next_n x y) (next_n y x)
    unfolding jsf_n
    opened =
        let k : suc n - i ≡ suc (n - i) = omega arith in
        s.rest ∙ ap (λ k. jsf_n k x y) k

    -- the digits of the rows there
    pub first_at : digit_in (row fst form) i ≡ val (dig_n x y)
    first_at = row_at fst refl form i ∙ ap (λ z. val (fst z)) (at_drop i form _ _ opened)

    pub second_at : digit_in (row snd form) i ≡ val (dig_n y x)
    second_at = row_at snd refl form i ∙ ap (λ z. val (snd z)) (at_drop i form _ _ opened)

    -- and the column
    pub column_at : (t : Turn) → Placed A B i c d t → column t.first t.second ≡ digit_in (columns_in A B n) i
    column_at t p =
        ap (λ u. column u t.second) (p.first_is ∙ sym first_at) ∙ ap (column (digit_in (row fst form) i)) (p.second_is ∙ sym second_at)
        ∙ sym (columns_at (row fst form) (row snd form) i)

    -- one place more
    pub stands_more : (t : Turn) → Placed A B i c d t → Standing (i + 1) t.carry t.other
    stands_more t p =
        let k : n - i ≡ suc n - (i + 1) = omega arith in
        let j : suc i ≡ i + 1 = omega arith in
        record {
          within = omega arith;
          carry_few = p.carry_few;
          other_few = p.other_few;
          rest =
              sym (drop-drop 1 i form) ∙ ap (drop 1) opened ∙ ap (λ k. jsf_n k (next_n x y) (next_n y x)) k
              ∙ ap (λ a. jsf_n (suc n - (i + 1)) a (next_n y x)) (p.carry_is ∙ ap (λ j. remains A j t.carry) j)
              ∙ ap (jsf_n (suc n - (i + 1)) (remains A (i + 1) t.carry)) (p.other_is ∙ ap (λ j. remains B j t.other) j);
        }

  -- the rows and the columns have n + 1 places
  pub first_length : length (row fst form) ≡ suc n
  first_length = row_length fst form ∙ form_length (suc n) A B

  pub second_length : length (row snd form) ≡ suc n
  second_length = row_length snd form ∙ form_length (suc n) A B

  pub columns_count : length (columns_in A B n) ≡ suc n
  columns_count = columns_length (row fst form) (row snd form) (second_length ∙ sym first_length) ∙ first_length

-- The theorems of the joint sparse form over two rows of digits: it is there on n + 1 places; it is the only one, on those places and, but for zero columns on top, on any;
-- and no two rows of any lengths that are worth the two numbers have fewer nonzero columns. Assumes nothing.
use mathlib.Core.Path.{◌≡◌, sym, ap, ◌∙◌}
use mathlib.Core.List.{List}
use Prim.Native.Nat.{ℕ, suc, ◌^◌, ◌≤◌}
use native.Mathlib.Numerals.{add-one}
use native.Mathlib.Omega.{arith}
use lib.IntN.{ℤ, pos}
use lib.ListN.{length}
use Rattle.meaning.specs.Digits.{weight}
use Rattle.meaning.specs.Joint.{digit_in, Sparse, Rows, JointForm, columns_of}
use Rattle.pairs.specs.Columns.{fst, snd, val, row, jsf_n}
use Rattle.pairs.proofs.Form as Form
use Rattle.pairs.proofs.Unique.{canon, unique, same_columns}
use Rattle.pairs.proofs.Least.{least}
use Rattle.pairs.proofs.Places.{Solinas}
use Rattle.pairs.proofs.Naturals.{solinas_nat}
use Rattle.pairs.proofs.Rows.{merge, merge_at, shown_is, merge_first, merge_second, merge_weight, rows_merge, regular_of, sparse_of, row_length, row_in, row_worth}

-- the form worked out, by its rows
abbrev pub first_row : (A B n : ℕ) → List ℤ
first_row A B n = row fst (jsf_n (suc n) A B)

abbrev pub second_row : (A B n : ℕ) → List ℤ
second_row A B n = row snd (jsf_n (suc n) A B)

module _ (A B n : ℕ) (a_small : A ≤ 2 ^ n) (b-small : B ≤ 2 ^ n) where
  solinas : Solinas n (pos A) (pos B) (jsf_n (suc n) A B)
  solinas = solinas_nat n A B a_small b-small

  -- it is there
  pub joint_exists : JointForm A B n (first_row A B n) (second_row A B n)
  joint_exists =
      let js = jsf_n (suc n) A B in
      record {
        first_length = row_length fst js ∙ solinas.size ∙ sym (add-one n);
        second_length = row_length snd js ∙ solinas.size ∙ sym (add-one n);
        rows =
            record {
              first_in = row_in fst js;
              second_in = row_in snd js;
              first_worth = row_worth fst js ∙ solinas.top;
              second_worth = row_worth snd js ∙ solinas.low;
            };
        sparse = sparse_of js solinas.legal;
      }

-- two pairs of rows are worth the same
module _ {A B : ℕ} {us vs us' vs' : List ℤ} (R : Rows A B us vs) (R' : Rows A B us' vs') where
  same_first : Form.worth fst (merge us vs) ≡ Form.worth fst (merge us' vs')
  same_first = merge_first us vs R.first_in ∙ R.first_worth ∙ sym (merge_first us' vs' R'.first_in ∙ R'.first_worth)

  same_second : Form.worth snd (merge us vs) ≡ Form.worth snd (merge us' vs')
  same_second = merge_second us vs R.second_in ∙ R.second_worth ∙ sym (merge_second us' vs' R'.second_in ∙ R'.second_worth)

  -- sparse ones have the same digits at every place, whatever their lengths: past the end of the shorter there are zero columns alone
  pub joint_agree : Sparse us vs → Sparse us' vs' → (i : ℕ) → (digit_in us i ≡ digit_in us' i) × (digit_in vs i ≡ digit_in vs' i)
  joint_agree S S' i =
      let e = sym (merge_at us vs i)
      ∙ same_columns (merge us vs) (merge us' vs') (regular_of us vs R.first_in R.second_in S) (regular_of us' vs' R'.first_in R'.second_in S') same_first same_second i
      ∙ merge_at us' vs' i in (
        sym (shown_is us R.first_in i) ∙ ap (λ c. val (fst c)) e ∙ shown_is us' R'.first_in i,
        sym (shown_is vs R.second_in i) ∙ ap (λ c. val (snd c)) e ∙ shown_is vs' R'.second_in i,
      )

-- on n + 1 places it is the only one
pub joint_only : {A B n : ℕ} {us vs us' vs' : List ℤ} → JointForm A B n us vs → JointForm A B n us' vs' → (us ≡ us') × (vs ≡ vs')
joint_only {A} {B} {n} {us} {vs} {us'} {vs'} J J' =
    let R = J.rows in
    let R' = J'.rows in
    let (p, q, l) = rows_merge us vs (J.first_length ∙ sym J.second_length) R.first_in R.second_in in
    let (p', q', l') = rows_merge us' vs' (J'.first_length ∙ sym J'.second_length) R'.first_in R'.second_in in
    let e : merge us vs ≡ merge us' vs' =
    unique (merge us vs) (merge us' vs') (regular_of us vs R.first_in R.second_in J.sparse) (regular_of us' vs' R'.first_in R'.second_in J'.sparse)
    (l ∙ J.first_length ∙ sym (l' ∙ J'.first_length)) (same_first R R') (same_second R R') in
    (sym p ∙ ap (row fst) e ∙ p', sym q ∙ ap (row snd) e ∙ q')

-- no two rows worth the two numbers have fewer nonzero columns, whatever their lengths
pub joint_least : {A B n : ℕ} {us vs us' vs' : List ℤ} → JointForm A B n us vs → Rows A B us' vs' → weight (columns_of us vs) ≤ weight (columns_of us' vs')
joint_least {A} {B} {n} {us} {vs} {us'} {vs'} J R' =
    let R = J.rows in
    let cs = merge us vs in
    let ds = merge us' vs' in
    let c = canon cs (regular_of us vs R.first_in R.second_in J.sparse) in
    omega
    (arith, least (length cs) ds, merge_weight us vs, merge_weight us' vs', ap Form.weight c, ap (λ z. Form.weight (Form.jsf (length cs) z (Form.worth snd cs))) (same_first R R'), ap (λ z. Form.weight (Form.jsf (length cs) (Form.worth fst ds) z)) (same_second R R'))

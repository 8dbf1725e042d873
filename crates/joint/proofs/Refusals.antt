-- The rules of the call: what it answers and leaves where one of them is the first, and where none applies. Before them, what the writing pass needs and gives.
-- Assumes nothing.
use mathlib.Core.Path.{◌≡◌, refl, sym, ap, ◌∙◌, subst}
use mathlib.Core.Logic.{◌⊎◌, ⊎_elim}
use mathlib.Core.List.{List, ◌++◌}
use Prim.Native.Nat.{ℕ, suc, ◌+◌, ◌-◌, ◌*◌, ◌^◌, ◌<◌, ◌≤◌}
use native.Mathlib.Nat.{le_of_lt}
use native.Mathlib.Omega.{arith}
use lib.IntN.{ℤ}
use lib.ListN.{length, drop}
use Rattle.meaning.specs.Scalars.{Order, number, bit_count, most_bytes}
use Rattle.meaning.specs.Digits.{top}
use Rattle.meaning.specs.Refusals.{Rule}
use Rattle.meaning.specs.Words.{most_words}
use Rattle.meaning.specs.Taping.{tape_of}
use Rattle.meaning.specs.Joint.{JointForm, columns_of}
use Rattle.meaning.specs.Joining.{Overlong, joint_rules, Buffers, Joint}
use Rattle.forms.proofs.Refusals.{Until, number_at, number_some, first_at, first_none}
use Rattle.scalar.proofs.Bytes.{Bytes, number_lt}
use Rattle.digits.specs.declared.Count.{Count}
use Rattle.walk.proofs.Lengths.{tape_length, tape_fits}
use Rattle.pairs.specs.Columns.{fst, snd, row, jsf_n}
use Rattle.pairs.proofs.Joint.{joint_exists, joint_only}
use Rattle.std.specs.Prelude.{Ok, Err}
use Rattle.refusals.specs.declared.Refusal.{Refusal}
use Rattle.refusals.specs.Coded.{coded}
use Rattle.joint.specs.Places.{columns_in, Weighed, Room, Written}
use Rattle.joint.specs.Answers.{answered}
use Rattle.joint.proofs.Standing.{first_length, second_length, columns_count}

-- ---- the writing pass
module _ (A B n : ℕ) {us vs : List ℤ} (p : us ≡ row fst (jsf_n (suc n) A B)) (q : vs ≡ row snd (jsf_n (suc n) A B)) where
  -- the columns of the rows are the form's
  columns_are : columns_of us vs ≡ columns_in A B n
  columns_are = ap (λ xs. columns_of xs vs) p ∙ ap (columns_of (row fst (jsf_n (suc n) A B))) q

  -- the rows are ready for the words
  pub ready : {high room : ℕ} → Room A B n high room → (length vs ≡ length us) × ((high ≡ top (columns_of us vs)) × (length (tape_of (columns_of us vs)) ≤ room))
  ready {high} {room} r = (
    ap length q ∙ second_length A B n ∙ sym (ap length p ∙ first_length A B n),
    (r.top_is ∙ ap top (sym columns_are), subst (λ cs. length (tape_of cs) ≤ room) (sym columns_are) r.enough),
  )

  -- and the words are theirs
  pub written : {words₀ words : List ℕ} → words ≡ tape_of (columns_of us vs) ++ drop (length (tape_of (columns_of us vs))) words₀ → Written A B n us vs words₀ words
  written {words₀} e = record { first_is = p; second_is = q; words_are = e ∙ ap (λ cs. tape_of cs ++ drop (length (tape_of cs)) words₀) columns_are }

-- ---- the call
-- what the tests before the counting pass have found, and the bytes
pub record Judged (a b : List ℕ) (lent : Buffers) : Type 0 where
  pub short : length a ≤ most_bytes
  pub other_short : length b ≤ most_bytes
  pub equal : length a ≡ length b
  pub places : bit_count a + 1 ≤ length lent.first
  pub others : bit_count a + 1 ≤ length lent.second
  pub bytes : Bytes a
  pub other_bytes : Bytes b

-- the first rules fail
pub not_long : {n m : ℕ} → n ≤ most_bytes → m ≤ most_bytes → (most_bytes < n) ⊎ (most_bytes < m) → ⊥
not_long h k = ⊎_elim (λ l. omega arith) (λ l. omega arith)

pub not_few : {a b : List ℕ} {lent : Buffers} → Judged a b lent → (length lent.first < bit_count a + 1) ⊎ (length lent.second < bit_count a + 1) → ⊥
not_few J = ⊎_elim (λ l. omega (arith, J.places)) (λ l. omega (arith, J.others))

module _ (o : Order) (a b : List ℕ) (lent : Buffers) where
  abbrev rules : List Rule
  rules = joint_rules o a b (length lent.first) (length lent.second) (length lent.words)

  -- the rule at index k is the first that applies: it is answered, and the buffers are as lent
  pub refuses : (k : ℕ) (r : Refusal) → coded r.reason ≡ number_at rules k → r.place ≡ 0 → Until rules k 0 → Joint o a b lent (answered (Err r)) lent
  refuses k r e z u =
      let n = number_some rules tt k 0 u in
      rw (e, z)
      (record {
        rules = first_at rules k 0 u;
        accepted = λ q. absurd (n q);
        refused = λ q. record { left_is = refl; columns_are = refl; top_is = refl; count_is = refl; doublings_are = refl; additions_are = refl };
      })

  -- once the places are found to do, and the columns are counted
  module _ (J : Judged a b lent) (c : Count) (weighed : Weighed (number o a) (number o b) (bit_count a) c) where
    -- the rows, and their columns
    abbrev us : List ℤ
    us = row fst (jsf_n (suc (bit_count a)) (number o a) (number o b))

    abbrev vs : List ℤ
    vs = row snd (jsf_n (suc (bit_count a)) (number o a) (number o b))

    abbrev cs : List ℤ
    cs = columns_in (number o a) (number o b) (bit_count a)

    -- the form is there
    formed : JointForm (number o a) (number o b) (bit_count a) us vs
    formed =
        joint_exists (number o a) (number o b) (bit_count a) (le_of_lt (number_lt o a J.bytes))
        (subst (λ k. number o b ≤ 2 ^ (8 * k)) (sym J.equal) (le_of_lt (number_lt o b J.other_bytes)))

    -- the words that the counts ask for, and that they are few
    pub needed_is : (c.top - 1) + c.weight ≡ length (tape_of cs)
    needed_is = omega (arith, tape_length cs, weighed.top_is, weighed.weight_is)

    pub needed_few : length (tape_of cs) ≤ most_words
    needed_few = tape_fits cs (omega (arith, J.short, columns_count (number o a) (number o b) (bit_count a)))

    -- the tape is longer than the room
    pub overlong : length lent.words < length (tape_of cs) → Overlong (number o a) (number o b) (bit_count a) (length lent.words)
    overlong h = record { first = us; second = vs; formed = formed; over = h }

    -- no rule applies: the rows and the words stand in the buffers
    module _ (enough : length (tape_of cs) ≤ length lent.words) where
      not_over : Overlong (number o a) (number o b) (bit_count a) (length lent.words) → ⊥
      not_over v =
          let (p, q) = joint_only v.formed formed in
          omega (arith, v.over, ap (λ xs. length (tape_of (columns_of xs v.second))) p, ap (λ ys. length (tape_of (columns_of us ys))) q)

      pub writable : Room (number o a) (number o b) (bit_count a) c.top (length lent.words)
      writable = record { top_is = weighed.top_is; enough = enough }

      pub accepts : {xs ys : List ℤ} {words : List ℕ} {needed doubled added : ℕ} → Written (number o a) (number o b) (bit_count a) xs ys lent.words words
          → needed ≡ length (tape_of cs) → doubled ≡ c.top - 1 → added ≡ c.weight - 1
          → Joint o a b lent (answered (Ok (record { columns = c.weight; top = c.top; words = needed; doublings = doubled; additions = added })))
          (record { first = xs ++ drop (bit_count a + 1) lent.first; second = ys ++ drop (bit_count a + 1) lent.second; words = words })
      accepts w n d k =
          record {
            rules =
                first_none rules
                (not_long J.short J.other_short, ((λ z. z J.equal), (not_few J, (not_over, tt))));
            accepted = λ z. record {
              first = us;
              second = vs;
              formed = formed;
              first_is = ap (λ zs. zs ++ drop (bit_count a + 1) lent.first) w.first_is;
              second_is = ap (λ zs. zs ++ drop (bit_count a + 1) lent.second) w.second_is;
              words_are = w.words_are;
              columns_are = weighed.weight_is;
              top_is = weighed.top_is;
              count_is = n;
              doublings_are = d ∙ ap (λ t. t - 1) weighed.top_is;
              additions_are = k ∙ ap (λ t. t - 1) weighed.weight_is;
            };
            refused = λ z. absurd (z refl);
          }

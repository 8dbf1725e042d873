-- The promise of joint: two outcomes that satisfy it for one input are equal; each number exactly when; a refusal leaves all three buffers; and what an acceptance tells:
-- both rows' worths, that no other sparse rows are worth them, the fewest nonzero columns of all, and the counts of demand 3. Some outcome keeps it at every input. Assumes nothing.
use mathlib.Core.Path.{◌≡◌, refl, sym, ap, ◌∙◌, subst}
use mathlib.Core.Logic.{◌≢◌}
use mathlib.Core.List.{List, [], ◌++◌}
use Prim.Native.Nat.{ℕ, zero, suc, ◌+◌, ◌*◌, ◌-◌, ◌^◌, ◌<◌, ◌≤◌}
use native.Mathlib.Nat.{le_of_lt}
use native.Mathlib.Decide.{dec_lt, ℕ_discrete}
use native.Mathlib.Omega.{arith}
use lib.IntN.{ℤ, pos}
use lib.ListN.{length, take, drop}
use lib.Seq.{take-append_seam}
use Rattle.meaning.specs.Scalars.{Order, number, bit_count, most_bytes}
use Rattle.meaning.specs.Digits.{all_in, worth, weight, top}
use Rattle.meaning.specs.Refusals.{Rule, First}
use Rattle.meaning.specs.Taping.{tape_of}
use Rattle.meaning.specs.Joint.{digit_in, Sparse, Rows, JointForm, columns_of}
use Rattle.meaning.specs.Joining.{Overlong, joint_rules, Joined, Buffers, Rowed, Joint}
use Rattle.forms.proofs.Refusals.{first_only, clear}
use Rattle.scalar.proofs.Bytes.{Bytes, number_lt}
use Rattle.pairs.proofs.Joint.{first_row, second_row, joint_exists, joint_agree, joint_only, joint_least}
use Rattle.promises.proofs.Exactly.{Exactly, exactly}
use Rattle.promises.proofs.Instances.{AllDecided, first_exists, by, or?, not?}

-- what a call leaves: its answer, and the three buffers
pub record Outcome : Type 0 where
  pub joined : Joined
  pub left : Buffers

-- outcomes are equal by their fields
made : (r p c t n d k : ℕ) (us vs : List ℤ) (ws : List ℕ) → Outcome
made r p c t n d k us vs ws =
    record { joined = record { refusal = r; place = p; columns = c; top = t; words = n; doublings = d; additions = k }; left = record { first = us; second = vs; words = ws } }

module _ (o : Order) (a b : List ℕ) (lent : Buffers) where
  abbrev rules : List Rule
  rules = joint_rules o a b (length lent.first) (length lent.second) (length lent.words)

  -- the outcome satisfies the promise
  abbrev pub Keeps : Outcome → Type 0
  Keeps x = Joint o a b lent x.joined x.left

  -- two outcomes that keep the promise are equal, accepted or refused
  pub joint_determined : (x y : Outcome) → Keeps x → Keeps y → x ≡ y
  unfolding made
  joint_determined x y K L = go (ℕ_discrete x.joined.refusal 0)
    where
      one : (x.joined.refusal ≡ y.joined.refusal) × (x.joined.place ≡ y.joined.place)
      one = first_only rules K.rules L.rules

      same : x.joined.columns ≡ y.joined.columns → x.joined.top ≡ y.joined.top → x.joined.words ≡ y.joined.words → x.joined.doublings ≡ y.joined.doublings → x.joined.additions ≡ y.joined.additions
          → x.left.first ≡ y.left.first → x.left.second ≡ y.left.second → x.left.words ≡ y.left.words
          → made x.joined.refusal x.joined.place x.joined.columns x.joined.top x.joined.words x.joined.doublings x.joined.additions x.left.first x.left.second x.left.words
          ≡ made y.joined.refusal y.joined.place y.joined.columns y.joined.top y.joined.words y.joined.doublings y.joined.additions y.left.first y.left.second y.left.words
      same c t n d k u v w = let (r, p) = one in cc

      go : Dec (x.joined.refusal ≡ 0) → x ≡ y
      go (yes z) =
          let A = K.accepted z in
          let B = L.accepted (sym one.0 ∙ z) in
          let (u, v) = joint_only A.formed B.formed in
          let e : columns_of A.first A.second ≡ columns_of B.first B.second = ap (λ us. columns_of us A.second) u ∙ ap (columns_of B.first) v in
          same
          (A.columns_are ∙ ap weight e ∙ sym B.columns_are)
          (A.top_is ∙ ap top e ∙ sym B.top_is)
          (A.count_is ∙ ap (λ cs. length (tape_of cs)) e ∙ sym B.count_is)
          (A.doublings_are ∙ ap (λ cs. top cs - 1) e ∙ sym B.doublings_are)
          (A.additions_are ∙ ap (λ cs. weight cs - 1) e ∙ sym B.additions_are)
          (A.first_is ∙ ap (λ us. us ++ drop (bit_count a + 1) lent.first) u ∙ sym B.first_is)
          (A.second_is ∙ ap (λ vs. vs ++ drop (bit_count a + 1) lent.second) v ∙ sym B.second_is)
          (A.words_are ∙ ap (λ cs. tape_of cs ++ drop (length (tape_of cs)) lent.words) e ∙ sym B.words_are)
      go (no n) =
          let A = K.refused n in
          let B = L.refused (λ e. n (one.0 ∙ e)) in
          let l = A.left_is ∙ sym B.left_is in
          same (A.columns_are ∙ sym B.columns_are) (A.top_is ∙ sym B.top_is) (A.count_is ∙ sym B.count_is) (A.doublings_are ∙ sym B.doublings_are) (A.additions_are ∙ sym B.additions_are)
          (ap (λ (t : Buffers). t.first) l) (ap (λ (t : Buffers). t.second) l) (ap (λ (t : Buffers). t.words) l)

  -- ---- demand 1
  pub joint_exactly : (x : Outcome) → Keeps x → Exactly rules x.joined.refusal x.joined.place
  joint_exactly x K = exactly rules tt _ _ K.rules

  pub joint_kept : (x : Outcome) → Keeps x → x.joined.refusal ≢ 0 → x.left ≡ lent
  joint_kept x K n = (K.refused n).left_is

  module _ (x : Outcome) (K : Keeps x) (z : x.joined.refusal ≡ 0) where
    -- what it left
    abbrev pub rowed : Rowed o a b lent x.joined x.left
    rowed = K.accepted z

    -- ---- demand 2: the first n + 1 places of the two buffers are the rows, worth the scalars
    pub joint_form : JointForm (number o a) (number o b) (bit_count a) (take (bit_count a + 1) x.left.first) (take (bit_count a + 1) x.left.second)
    joint_form =
        let F = rowed.formed in
        let fore : (us old now : List ℤ) → length us ≡ bit_count a + 1 → now ≡ us ++ drop (bit_count a + 1) old → us ≡ take (bit_count a + 1) now =
        λ us old now l e. sym (ap (take (bit_count a + 1)) e ∙ ap (λ k. take k (us ++ drop (bit_count a + 1) old)) (sym l) ∙ take-append_seam us (drop (bit_count a + 1) old)) in
        subst (λ us. JointForm (number o a) (number o b) (bit_count a) us (take (bit_count a + 1) x.left.second)) (fore rowed.first lent.first x.left.first F.first_length rowed.first_is)
        (subst (JointForm (number o a) (number o b) (bit_count a) rowed.first) (fore rowed.second lent.second x.left.second F.second_length rowed.second_is) F)

    -- any other sparse rows worth the scalars, of whatever lengths, have the same digits at every place: they differ in zero columns on top alone
    pub joint_unique : (us vs : List ℤ) → Rows (number o a) (number o b) us vs → Sparse us vs → (i : ℕ) → (digit_in us i ≡ digit_in rowed.first i) × (digit_in vs i ≡ digit_in rowed.second i)
    joint_unique us vs R S i = joint_agree R rowed.formed.rows S rowed.formed.sparse i

    -- ---- demand 3
    -- no two rows of -1, 0, 1 worth the two scalars have fewer nonzero columns, whatever their lengths
    pub joint_fewest : (us vs : List ℤ) → Rows (number o a) (number o b) us vs → x.joined.columns ≤ weight (columns_of us vs)
    joint_fewest us vs R = omega (arith, rowed.columns_are, joint_least rowed.formed R)

    -- additions are the nonzero columns less one, and doublings one for each place under the top column
    pub joint_additions : x.joined.additions ≡ x.joined.columns - 1
    joint_additions = rowed.additions_are ∙ ap (λ k. k - 1) (sym rowed.columns_are)

    pub joint_doublings : x.joined.doublings ≡ x.joined.top - 1
    joint_doublings = rowed.doublings_are ∙ ap (λ k. k - 1) (sym rowed.top_is)

    -- none for two zeros, whose rows of no places have no column
    pub joint_zeros : number o a ≡ 0 → number o b ≡ 0 → (x.joined.columns ≡ 0) × (x.joined.additions ≡ 0)
    unfolding all_in worth columns_of weight
    joint_zeros p q =
        let n = joint_fewest [] [] (record { first_in = tt; second_in = tt; first_worth = ap pos (sym p); second_worth = ap pos (sym q) }) in
        (omega (arith, n), omega (arith, n, joint_additions))

-- ---- some outcome keeps it, for any two scalars of bytes
module _ (o : Order) (a b : List ℕ) (bytes : Bytes a) (other_bytes : Bytes b) (lent : Buffers) where
  abbrev A : ℕ
  A = number o a

  abbrev B : ℕ
  B = number o b

  abbrev n : ℕ
  n = bit_count a

  formed : length a ≡ length b → JointForm A B n (first_row A B n) (second_row A B n)
  formed e = joint_exists A B n (le_of_lt (number_lt o a bytes)) (subst (λ k. B ≤ 2 ^ (8 * k)) (sym e) (le_of_lt (number_lt o b other_bytes)))

  abbrev cs : List ℤ
  cs = columns_of (first_row A B n) (second_row A B n)

  -- equal lengths
  equal_of : ((length a ≢ length b) → ⊥) → length a ≡ length b
  equal_of h = go (ℕ_discrete (length a) (length b))
    where
      go : Dec (length a ≡ length b) → length a ≡ length b
      go (yes e) = e
      go (no m) = absurd (h m)

  room? : length a ≡ length b → Dec (length lent.words < length (tape_of cs)) → Dec (Overlong A B n (length lent.words))
  room? e (yes h) = yes (record { first = first_row A B n; second = second_row A B n; formed = formed e; over = h })
  room? e (no h) = no (λ v.
      let (p, q) = joint_only v.formed (formed e) in
      h (omega (arith, v.over, ap (λ us. length (tape_of (columns_of us v.second))) p, ap (λ vs. length (tape_of (columns_of (first_row A B n) vs))) q)))

  decided : AllDecided (rules o a b lent)
  decided = (
    by (or? (dec_lt most_bytes (length a)) (dec_lt most_bytes (length b))),
    λ _. (
      by (not? (ℕ_discrete (length a) (length b))),
      λ m. (
        by (or? (dec_lt (length lent.first) (n + 1)) (dec_lt (length lent.second) (n + 1))),
        λ _. (by (room? (equal_of m) (dec_lt (length lent.words) (length (tape_of cs)))), λ _. tt),
      ),
    ),
  )

  pub joint_kept_by : (x : Outcome) × Keeps o a b lent x
  joint_kept_by = let (r, p, f) = first_exists (rules o a b lent) decided in go r p f
    where
      go : (r p : ℕ) → First (rules o a b lent) r p → (x : Outcome) × Keeps o a b lent x
      go zero p f =
          let (_, (m, _)) = clear (rules o a b lent) tt 0 p f refl in (
            record {
              joined = record { refusal = 0; place = p; columns = weight cs; top = top cs; words = length (tape_of cs); doublings = top cs - 1; additions = weight cs - 1 };
              left =
                  record {
                    first = first_row A B n ++ drop (n + 1) lent.first;
                    second = second_row A B n ++ drop (n + 1) lent.second;
                    words = tape_of cs ++ drop (length (tape_of cs)) lent.words;
                  };
            },
            record {
              rules = f;
              accepted = λ _. record {
                first = first_row A B n;
                second = second_row A B n;
                formed = formed (equal_of m);
                first_is = refl;
                second_is = refl;
                words_are = refl;
                columns_are = refl;
                top_is = refl;
                count_is = refl;
                doublings_are = refl;
                additions_are = refl;
              };
              refused = λ m. absurd (m refl);
            },
          )
      go (suc r) p f = (
        record { joined = record { refusal = suc r; place = p; columns = 0; top = 0; words = 0; doublings = 0; additions = 0 }; left = lent },
        record {
          rules = f;
          accepted = λ z. absurd (omega arith);
          refused = λ _. record { left_is = refl; columns_are = refl; top_is = refl; count_is = refl; doublings_are = refl; additions_are = refl };
        },
      )

-- Known pairs: a list of cases, and one theorem that covers it: what the promise of joint determines at each is the listed rows and words. Slips that look right: rows swapped, a pair of rows
-- that is least and not sparse, two wNAFs side by side. And calls that cannot keep the promise: refusing everything, writing nothing, one fixed pair of rows. Assumes nothing.
use mathlib.Core.Path.{◌≡◌, refl, sym, ap, ◌∙◌}
use mathlib.Core.Logic.{◌≢◌, ⊎_elim}
use mathlib.Core.List.{List, [], ◌∷◌, ◌++◌}
use Prim.Native.Nat.{ℕ, zero, suc, ◌+◌, ◌-◌, ◌^◌, ◌<◌, ◌≤◌}
use native.Mathlib.Omega.{arith}
use lib.Dec.{T, leb, leb→le, lit<, lit≤}
use lib.IntN.{ℤ, pos, negsuc, nat_abs}
use lib.ListN.{length, drop, replicate}
use Rattle.meaning.specs.Scalars.{highest_first, number, bit_count, most_bytes}
use Rattle.meaning.specs.Digits.{in_set, all_in, worth, nonzero, weight, top}
use Rattle.meaning.specs.Taping.{moves, down, tape_of}
use Rattle.meaning.specs.Joint.{digit_in, Rows, JointForm, column, columns_of}
use Rattle.meaning.specs.Joining.{Overlong, joint_rules, Joined, Buffers}
use Rattle.forms.proofs.Refusals.{first_none}
use Rattle.scalar.proofs.Bytes.{Bytes}
use Rattle.pairs.specs.Columns.{val, off, rule, row, dig_n, next_n, jsf_n}
use Rattle.pairs.proofs.Joint.{first_row, second_row, joint_exists, joint_only}
use Rattle.promises.proofs.Known.{All}
use Rattle.promises.proofs.Joint.{Outcome, Keeps, joint_determined, joint_kept_by}

-- ---- known pairs
-- two scalars, highest byte first, the rows of their form on all the places that the bytes give, and its words
pub record Case : Type 0 where
  pub a : List ℕ
  pub b : List ℕ
  pub first : List ℤ
  pub second : List ℤ
  pub words : List ℕ

abbrev zeros : ℕ → List ℤ
zeros n = replicate n (pos 0)

-- the first, and one with a zero
pub fifty_seven : Case
fifty_seven = record { a = 57 ∷ []; b = 22 ∷ []; first = pos 1 ∷ pos 0 ∷ pos 0 ∷ negsuc 0 ∷ pos 0 ∷ pos 0 ∷ pos 1 ∷ zeros 2; second = pos 0 ∷ negsuc 0 ∷ pos 0 ∷ negsuc 0 ∷ pos 0 ∷ pos 1 ∷ zeros 3; words = 0x1000 ∷ 0 ∷ 0x3001 ∷ 0 ∷ 0 ∷ 0x4002 ∷ 0 ∷ 0 ∷ 0x4001 ∷ 0 ∷ 0x3000 ∷ [] }

pub thirteen : Case
thirteen = record { a = 13 ∷ []; b = 0 ∷ []; first = pos 1 ∷ pos 0 ∷ negsuc 0 ∷ pos 0 ∷ pos 1 ∷ zeros 4; second = zeros 9; words = 0x1000 ∷ 0 ∷ 0 ∷ 0x4000 ∷ 0 ∷ 0 ∷ 0x3000 ∷ [] }

-- document 001's 57 and 22, and 6,699 and 4,846; equal scalars; one zero, on either side; no bytes
pub pairs : List Case
pairs =
    fifty_seven
    ∷ record { a = 26 ∷ 43 ∷ []; b = 18 ∷ 238 ∷ []; first = pos 1 ∷ pos 1 ∷ pos 0 ∷ negsuc 0 ∷ negsuc 0 ∷ pos 0 ∷ pos 1 ∷ pos 0 ∷ pos 0 ∷ pos 1 ∷ pos 0 ∷ pos 1 ∷ pos 1 ∷ zeros 4; second = pos 0 ∷ negsuc 0 ∷ pos 0 ∷ pos 0 ∷ negsuc 0 ∷ pos 0 ∷ pos 0 ∷ pos 0 ∷ pos 1 ∷ pos 1 ∷ pos 0 ∷ pos 0 ∷ pos 1 ∷ zeros 4; words = 0x1002 ∷ 0 ∷ 0x3000 ∷ 0 ∷ 0 ∷ 0x3002 ∷ 0 ∷ 0x3001 ∷ 0 ∷ 0 ∷ 0x3000 ∷ 0 ∷ 0 ∷ 0x4002 ∷ 0 ∷ 0x4000 ∷ 0 ∷ 0 ∷ 0x3003 ∷ 0 ∷ 0x3000 ∷ [] }
    ∷ record { a = 255 ∷ []; b = 255 ∷ []; first = negsuc 0 ∷ pos 0 ∷ pos 0 ∷ pos 0 ∷ pos 0 ∷ pos 0 ∷ pos 0 ∷ pos 0 ∷ pos 1 ∷ []; second = negsuc 0 ∷ pos 0 ∷ pos 0 ∷ pos 0 ∷ pos 0 ∷ pos 0 ∷ pos 0 ∷ pos 0 ∷ pos 1 ∷ []; words = 0x1002 ∷ 0 ∷ 0 ∷ 0 ∷ 0 ∷ 0 ∷ 0 ∷ 0 ∷ 0 ∷ 0x4002 ∷ [] }
    ∷ thirteen
    ∷ record { a = 0 ∷ []; b = 13 ∷ []; first = zeros 9; second = pos 1 ∷ pos 0 ∷ negsuc 0 ∷ pos 0 ∷ pos 1 ∷ zeros 4; words = 0x1001 ∷ 0 ∷ 0 ∷ 0x4001 ∷ 0 ∷ 0 ∷ 0x3001 ∷ [] }
    ∷ record { a = []; b = []; first = zeros 1; second = zeros 1; words = [] }
    ∷ []

-- whatever an outcome is that keeps the promise of joint where there is room: accepted, these rows and words with what stood past them, and their counts
pub record Answered (c : Case) (lent : Buffers) (x : Outcome) : Type 0 where
  pub joined_is : let cs = columns_of c.first c.second in x.joined ≡ record { refusal = 0; place = 0; columns = weight cs; top = top cs; words = length c.words; doublings = top cs - 1; additions = weight cs - 1 }
  pub left_is : x.left ≡ record {
    first = c.first ++ drop (bit_count c.a + 1) lent.first;
    second = c.second ++ drop (bit_count c.a + 1) lent.second;
    words = c.words ++ drop (length c.words) lent.words;
  }

-- there is room for the rows and the words
pub record Roomy (c : Case) (lent : Buffers) : Type 0 where
  pub first : bit_count c.a + 1 ≤ length lent.first
  pub second : bit_count c.a + 1 ≤ length lent.second
  pub words : length c.words ≤ length lent.words

abbrev Known : Case → Type 0
Known c = (lent : Buffers) → Roomy c lent → (x : Outcome) → Keeps highest_first c.a c.b lent x → Answered c lent x

-- what a case is by computing
abbrev A : Case → ℕ
A c = number highest_first c.a

abbrev B : Case → ℕ
B c = number highest_first c.b

record Computed (c : Case) : Type 0 where
  short : T (leb (length c.a) most_bytes)
  equal : length c.a ≡ length c.b
  small : T (leb (A c) (2 ^ bit_count c.a))
  other_small : T (leb (B c) (2 ^ bit_count c.a))
  first_is : first_row (A c) (B c) (bit_count c.a) ≡ c.first
  second_is : second_row (A c) (B c) (bit_count c.a) ≡ c.second
  words_are : tape_of (columns_of c.first c.second) ≡ c.words

formed : (c : Case) → Computed c → JointForm (A c) (B c) (bit_count c.a) c.first c.second
formed c k = rw (← k.first_is, ← k.second_is) (joint_exists (A c) (B c) (bit_count c.a) (leb→le _ _ k.small) (leb→le _ _ k.other_small))

known : (c : Case) → Computed c → Known c
known c k lent room x K =
    let F = formed c k in
    let short = leb→le (length c.a) most_bytes k.short in
    let cs = columns_of c.first c.second in
    let n = ap length k.words_are in
    let not_over : Overlong (A c) (B c) (bit_count c.a) (length lent.words) → ⊥ =
    λ v. let (p, q) = joint_only v.formed F in omega (arith, v.over, ap (λ us. length (tape_of (columns_of us v.second))) p, ap (λ vs. length (tape_of (columns_of c.first vs))) q, n, room.words) in
    let e = joint_determined highest_first c.a c.b lent x
    (record {
      joined = record { refusal = 0; place = 0; columns = weight cs; top = top cs; words = length c.words; doublings = top cs - 1; additions = weight cs - 1 };
      left =
          record {
            first = c.first ++ drop (bit_count c.a + 1) lent.first;
            second = c.second ++ drop (bit_count c.a + 1) lent.second;
            words = c.words ++ drop (length c.words) lent.words;
          };
    })
    K
    (record {
      rules =
          first_none (joint_rules highest_first c.a c.b (length lent.first) (length lent.second) (length lent.words))
          (⊎_elim (λ l. omega (arith, short)) (λ l. omega (arith, short, k.equal)), ((λ m. m k.equal), (⊎_elim (λ l. omega (arith, room.first)) (λ l. omega (arith, room.second)), (not_over, tt))));
      accepted = λ _. record {
        first = c.first;
        second = c.second;
        formed = F;
        first_is = refl;
        second_is = refl;
        words_are = ap (λ ws. ws ++ drop (length ws) lent.words) (sym k.words_are);
        columns_are = refl;
        top_is = refl;
        count_is = sym n;
        doublings_are = refl;
        additions_are = refl;
      };
      refused = λ m. absurd (m refl);
    }) in
    record { joined_is = ap (λ (y : Outcome). y.joined) e; left_is = ap (λ (y : Outcome). y.left) e }

every : (cs : List Case) → All Computed cs → All Known cs
every [] t = tt
every (c ∷ cs) (k, t) = (known c k, every cs t)

computed : All Computed pairs
unfolding pairs fifty_seven thirteen number row jsf_n dig_n next_n rule off val columns_of column tape_of down moves
computed = (
  record { short = tt; equal = refl; small = tt; other_small = tt; first_is = refl; second_is = refl; words_are = refl },
  (
    record { short = tt; equal = refl; small = tt; other_small = tt; first_is = refl; second_is = refl; words_are = refl },
    (
      record { short = tt; equal = refl; small = tt; other_small = tt; first_is = refl; second_is = refl; words_are = refl },
      (
        record { short = tt; equal = refl; small = tt; other_small = tt; first_is = refl; second_is = refl; words_are = refl },
        (
          record { short = tt; equal = refl; small = tt; other_small = tt; first_is = refl; second_is = refl; words_are = refl },
          (
            record { short = tt; equal = refl; small = tt; other_small = tt; first_is = refl; second_is = refl; words_are = refl },
            tt,
          ),
        ),
      ),
    ),
  ),
)

pub known_pairs : All Known pairs
known_pairs = every pairs computed

-- ---- slips
-- the rows of a form swapped are one only where the scalars are equal
pub swapped_equal : {A B n : ℕ} {us vs : List ℤ} → JointForm A B n us vs → JointForm A B n vs us → A ≡ B
swapped_equal F G = ap nat_abs (sym G.rows.first_worth ∙ F.rows.second_worth)

-- a pair of rows that differs from the form's in the size of a digit of the first
not_it : (A B n place : ℕ) {us vs : List ℤ} → A ≤ 2 ^ n → B ≤ 2 ^ n → nat_abs (digit_in us place) ≢ nat_abs (digit_in (first_row A B n) place) → JointForm A B n us vs → ⊥
not_it A B n place h k d F = d (ap (λ us. nat_abs (digit_in us place)) (joint_only F (joint_exists A B n h k)).0)

-- document 001's left-to-right method: rows of 6,699 and 4,846 with as few columns as there can be, 9, which are not the joint sparse form
pub from_left : List ℤ
from_left = negsuc 0 ∷ pos 0 ∷ negsuc 0 ∷ pos 0 ∷ pos 1 ∷ pos 1 ∷ pos 0 ∷ pos 0 ∷ pos 0 ∷ pos 1 ∷ pos 0 ∷ pos 1 ∷ pos 1 ∷ zeros 4

pub other_from_left : List ℤ
other_from_left = pos 0 ∷ negsuc 0 ∷ pos 0 ∷ pos 0 ∷ pos 1 ∷ negsuc 0 ∷ pos 0 ∷ pos 0 ∷ pos 1 ∷ pos 1 ∷ pos 0 ∷ pos 0 ∷ pos 1 ∷ zeros 4

pub left_rows : Rows 6699 4846 from_left other_from_left
unfolding from_left other_from_left all_in in_set worth
left_rows = record { first_in = tt; second_in = tt; first_worth = refl; second_worth = refl }

pub left_least : (weight (columns_of from_left other_from_left) ≡ 9) × (weight (columns_of (first_row 6699 4846 16) (second_row 6699 4846 16)) ≡ 9)
unfolding from_left other_from_left weight nonzero columns_of column row jsf_n dig_n next_n rule off val
left_least = (refl, refl)

pub left_not_joint : JointForm 6699 4846 16 from_left other_from_left → ⊥
unfolding from_left row jsf_n dig_n next_n rule off val
left_not_joint = not_it 6699 4846 16 1 (lit≤ tt) (lit≤ tt) (λ e. omega arith)

-- the wNAFs of 3 and of 2 side by side have three nonzero columns, and the form has two
pub wnafs_rows : Rows 3 2 (negsuc 0 ∷ pos 0 ∷ pos 1 ∷ zeros 6) (pos 0 ∷ pos 1 ∷ zeros 7)
unfolding all_in in_set worth
wnafs_rows = record { first_in = tt; second_in = tt; first_worth = refl; second_worth = refl }

pub wnafs_not_joint : JointForm 3 2 8 (negsuc 0 ∷ pos 0 ∷ pos 1 ∷ zeros 6) (pos 0 ∷ pos 1 ∷ zeros 7) → ⊥
unfolding row jsf_n dig_n next_n rule off val
wnafs_not_joint = not_it 3 2 8 1 (lit≤ tt) (lit≤ tt) (λ e. omega arith)

-- ---- calls that cannot keep the promise
-- an outcome for every input, two scalars of bytes among it, which keeps the promise
pub record Joiner : Type 0 where
  pub call : (a b : List ℕ) → Bytes a → Bytes b → Buffers → Outcome
  pub keeps : (a b : List ℕ) (p : Bytes a) (q : Bytes b) (lent : Buffers) → Keeps highest_first a b lent (call a b p q lent)

-- there is one
pub joiner : Joiner
joiner = record { call = λ a b p q lent. (joint_kept_by highest_first a b p q lent).0; keeps = λ a b p q lent. (joint_kept_by highest_first a b p q lent).1 }

-- 57 and 22 in a byte each, and 13 and 0; nine places lent for each row, and eleven words
byte : (x : ℕ) → x < 256 → Bytes (x ∷ [])
byte x h zero = h
byte x h (suc i) = lit< tt

abbrev lent : Buffers
lent = record { first = zeros 9; second = zeros 9; words = replicate 11 0 }

module _ (c : Joiner) where
  abbrev theirs : Outcome
  theirs = c.call (57 ∷ []) (22 ∷ []) (byte 57 (lit< tt)) (byte 22 (lit< tt)) lent

  abbrev others : Outcome
  others = c.call (13 ∷ []) (0 ∷ []) (byte 13 (lit< tt)) (byte 0 (lit< tt)) lent

  their_answer : Answered fifty_seven lent theirs
  unfolding pairs fifty_seven
  their_answer = known_pairs.0 lent (record { first = lit≤ tt; second = lit≤ tt; words = lit≤ tt }) theirs (c.keeps (57 ∷ []) (22 ∷ []) (byte 57 (lit< tt)) (byte 22 (lit< tt)) lent)

  other_answer : Answered thirteen lent others
  unfolding pairs thirteen
  other_answer = known_pairs.1.1.1.0 lent (record { first = lit≤ tt; second = lit≤ tt; words = lit≤ tt }) others (c.keeps (13 ∷ []) (0 ∷ []) (byte 13 (lit< tt)) (byte 0 (lit< tt)) lent)

  -- refusing everything
  pub joint_not_refusing : ((a b : List ℕ) (p : Bytes a) (q : Bytes b) (lent : Buffers) → (c.call a b p q lent).joined.refusal ≢ 0) → ⊥
  joint_not_refusing f = f (57 ∷ []) (22 ∷ []) (byte 57 (lit< tt)) (byte 22 (lit< tt)) lent (ap (λ (j : Joined). j.refusal) their_answer.joined_is)

  -- writing nothing
  pub joint_not_idle : ((a b : List ℕ) (p : Bytes a) (q : Bytes b) (lent : Buffers) → (c.call a b p q lent).left ≡ lent) → ⊥
  unfolding fifty_seven thirteen
  joint_not_idle f =
      let e = sym (f (57 ∷ []) (22 ∷ []) (byte 57 (lit< tt)) (byte 22 (lit< tt)) lent) ∙ their_answer.left_is in
      let n : ◌≡◌ {A = ℕ} 0 1 = ap (λ (l : Buffers). nat_abs (digit_in l.first 0)) e in
      omega arith

  -- one pair of rows for all scalars
  pub joint_not_fixed : (us vs : List ℤ) → ((a b : List ℕ) (p : Bytes a) (q : Bytes b) (lent : Buffers) → ((c.call a b p q lent).left.first ≡ us) × ((c.call a b p q lent).left.second ≡ vs)) → ⊥
  unfolding fifty_seven thirteen
  joint_not_fixed us vs f =
      let p = (f (57 ∷ []) (22 ∷ []) (byte 57 (lit< tt)) (byte 22 (lit< tt)) lent).1 in
      let q = (f (13 ∷ []) (0 ∷ []) (byte 13 (lit< tt)) (byte 0 (lit< tt)) lent).1 in
      let e = sym (ap (λ (l : Buffers). l.second) their_answer.left_is) ∙ p ∙ sym q ∙ ap (λ (l : Buffers). l.second) other_answer.left_is in
      let n : ◌≡◌ {A = ℕ} 1 0 = ap (λ vs. nat_abs (digit_in vs 1)) e in
      omega arith

-- The two orders of bytes: lowest first of some bytes is highest first of the reversed bytes, so the frames that two probes send of one number are recoded, checked and read
-- alike; and a call that ignores the order cannot keep its promise. From the calls' promises alone. Assumes nothing.
use mathlib.Core.Path.{◌≡◌, refl, sym, ap, ◌∙◌}
use mathlib.Core.List.{List, [], ◌∷◌, ◌++◌, reverse, reverse-append}
use Prim.Native.Nat.{ℕ, zero, suc, ◌+◌, ◌*◌, ◌^◌}
use native.Mathlib.Nat.{mul_assoc, mul_comm}
use native.Mathlib.Omega.{arith}
use lib.Dec.{lit<, lit≤}
use lib.IntN.{ℤ, pos, nat_abs}
use lib.ListN.{length, get_or, length-append, length-reverse, replicate}
use lib.Pow.{pow-add}
use Rattle.meaning.specs.Scalars.{Order, highest_first, lowest_first, number}
use Rattle.meaning.specs.Digits.{Tally, all_in, in_set, worth}
use Rattle.meaning.specs.Forms.{asked, Has}
use Rattle.meaning.specs.Checking.{check_rules, nonadjacent_rules}
use Rattle.meaning.specs.Reading.{sequence}
use Rattle.forms.specs.Fractional.{fractional_from, fractional_digit, fractional_next}
use Rattle.forms.proofs.Made.{least_between, fractional_is}
use Rattle.width.proofs.Widths.{whole_pair}
use Rattle.scalar.proofs.Bytes.{Bytes, number_lt}
use Rattle.promises.proofs.Recode as Recoding
use Rattle.promises.proofs.Recode.{recode_determined}
use Rattle.promises.proofs.Check as Checking
use Rattle.promises.proofs.Check.{Legal, check_determined, check_yes, check_yes_only}
use Rattle.promises.proofs.Known.{Answered, allowed, answered}
use Rattle.promises.proofs.RuledOut.{Recoder, Checker}

-- ---- reversed bytes
-- a byte more at the low end
number_snoc : (s : List ℕ) (b : ℕ) → number highest_first (s ++ (b ∷ [])) ≡ b + 256 * number highest_first s
unfolding number
number_snoc [] b = omega arith
number_snoc (x ∷ s) b =
    let P = 2 ^ (8 * length s) in
    let n : 8 * length (s ++ (b ∷ [])) ≡ 8 + 8 * length s = omega (arith, length-append s (b ∷ [])) in
    let e : x * 2 ^ (8 * length (s ++ (b ∷ []))) ≡ 256 * (x * P) = ap (λ t. x * 2 ^ t) n ∙ ap (λ t. x * t) (pow-add 2 8 (8 * length s)) ∙ omega (arith, mul_assoc x 256 P, mul_comm x 256, mul_assoc 256 x P) in
    omega (arith, e, number_snoc s b)

pub lowest_reversed : (s : List ℕ) → number lowest_first s ≡ number highest_first (reverse s)
unfolding number
lowest_reversed [] = refl
lowest_reversed (b ∷ s) = ap (λ n. b + 256 * n) (lowest_reversed s) ∙ sym (ap (number highest_first) (reverse-append (b ∷ []) s) ∙ number_snoc (reverse s) b)

-- ---- the calls on the frames that two probes send of one number
module _ (form w l : ℕ) {s : List ℕ} {digits₀ : List ℤ} {marks₀ : List ℕ} where
  -- what is promised of one frame is promised of the other
  turned : (o : Recoding.Outcome) → Recoding.Keeps form w l lowest_first s digits₀ marks₀ o → Recoding.Keeps form w l highest_first (reverse s) digits₀ marks₀ o
  turned o K =
      record {
        first = rw (length-reverse s) K.first;
        accepted = λ z. let A = K.accepted z in record {
          string = A.string;
          formed = rw (length-reverse s, ← lowest_reversed s) A.formed;
          digits_are = rw (length-reverse s) A.digits_are;
          marks_are = A.marks_are;
          weight_is = A.weight_is;
          top_is = A.top_is;
        };
        refused = K.refused;
      }

  -- so recode leaves the same: number, digits, marks, weight and top
  pub recode_turned : (o p : Recoding.Outcome) → Recoding.Keeps form w l lowest_first s digits₀ marks₀ o → Recoding.Keeps form w l highest_first (reverse s) digits₀ marks₀ p → o ≡ p
  recode_turned o p K L = recode_determined form w l highest_first (reverse s) digits₀ marks₀ o p (turned o K) L

-- the checks answer the same
pub check_turned : (w l : ℕ) (s : List ℕ) (ds : List ℤ) (u v : Tally) → Checking.Keeps (check_rules w l lowest_first s ds) ds u → Checking.Keeps (check_rules w l highest_first (reverse s) ds) ds v → u ≡ v
check_turned w l s ds u v K L =
    check_determined (check_rules w l highest_first (reverse s) ds) ds u v (record { first = rw (length-reverse s, ← lowest_reversed s) K.first; weight_is = K.weight_is; top_is = K.top_is }) L

pub nonadjacent_turned : (w l : ℕ) (s : List ℕ) (ds : List ℤ) (u v : Tally) → Checking.Keeps (nonadjacent_rules w l lowest_first s ds) ds u → Checking.Keeps (nonadjacent_rules w l highest_first (reverse s) ds) ds v → u ≡ v
nonadjacent_turned w l s ds u v K L =
    check_determined (nonadjacent_rules w l highest_first (reverse s) ds) ds u v (record { first = rw (length-reverse s, ← lowest_reversed s) K.first; weight_is = K.weight_is; top_is = K.top_is }) L

-- the reader's sequence is the same
pub sequence_turned : (r w : ℕ) (s : List ℕ) → sequence r w lowest_first s ≡ sequence r w highest_first (reverse s)
sequence_turned r w s = rw (length-reverse s, ← lowest_reversed s) refl

-- ---- ruled out: the order ignored. The bytes 1 and 0 mean 256, or 1
two_bytes : List ℕ
two_bytes = 1 ∷ 0 ∷ []

are_bytes : Bytes two_bytes
unfolding two_bytes
are_bytes zero = lit< tt
are_bytes (suc zero) = lit< tt
are_bytes (suc (suc i)) = lit< tt

-- buffers that are lent, and the lowest digit of one
digits_lent : List ℤ
digits_lent = replicate 17 (pos 0)

marks_lent : List ℕ
marks_lent = replicate 9 0

lowest_digit : List ℤ → ℕ
lowest_digit ds = nat_abs (get_or ds 0 (pos 0))

module _ (c : Recoder) where
  -- what it does with them as wNAF at width 2
  of_bytes : Order → Recoding.Outcome
  of_bytes o = c.call 2 2 1 o two_bytes are_bytes digits_lent marks_lent

  answer : (o : Order) → Answered two_bytes (fractional_from 2 1 17 (number o two_bytes)) digits_lent marks_lent (of_bytes o)
  unfolding two_bytes digits_lent marks_lent of_bytes asked Has
  answer o =
      let small = number_lt o two_bytes are_bytes in
      answered 2 2 1 o two_bytes (fractional_from 2 1 17 (number o two_bytes)) (allowed 2 2 1 tt tt) (lit≤ tt) small (fractional_is 2 1 (number o two_bytes) 16 (least_between 2 (lit≤ tt)) small) digits_lent marks_lent (lit≤ tt) (lit≤ tt)
      (of_bytes o) (c.keeps 2 2 1 o two_bytes are_bytes digits_lent marks_lent)

  high_digit : lowest_digit (of_bytes highest_first).digits ≡ 0
  unfolding lowest_digit two_bytes digits_lent number fractional_from fractional_digit fractional_next
  high_digit = ap lowest_digit (answer highest_first).digits_are

  low_digit : lowest_digit (of_bytes lowest_first).digits ≡ 1
  unfolding lowest_digit two_bytes digits_lent number fractional_from fractional_digit fractional_next
  low_digit = ap lowest_digit (answer lowest_first).digits_are

  pub recode_not_orderless : ((form w l : ℕ) (o p : Order) (s : List ℕ) (b : Bytes s) (digits₀ : List ℤ) (marks₀ : List ℕ) → c.call form w l o s b digits₀ marks₀ ≡ c.call form w l p s b digits₀ marks₀) → ⊥
  unfolding of_bytes
  recode_not_orderless r =
      let z : ◌≡◌ {A = ℕ} 0 1 = sym high_digit ∙ ap (λ (x : Recoding.Outcome). lowest_digit x.digits) (r 2 2 1 highest_first lowest_first two_bytes are_bytes digits_lent marks_lent) ∙ low_digit in
      omega arith

-- the string 1 is worth them lowest first, and not highest first
low_legal : Legal 2 1 lowest_first two_bytes (pos 1 ∷ [])
unfolding two_bytes all_in in_set worth number
low_legal = record { pair = whole_pair (lit≤ tt, lit≤ tt); few = lit≤ tt; short = lit≤ tt; digits = tt; worth_is = refl }

high_illegal : Legal 2 1 highest_first two_bytes (pos 1 ∷ []) → ⊥
unfolding two_bytes worth number
high_illegal L = let z : ◌≡◌ {A = ℕ} 1 256 = ap nat_abs L.worth_is in omega arith

pub check_not_orderless : (c : Checker check_rules) → ((w l : ℕ) (o p : Order) (s : List ℕ) (ds : List ℤ) → c.call w l o s ds ≡ c.call w l p s ds) → ⊥
check_not_orderless c r =
    let yes = ap (λ (v : Tally). v.refusal) (r 2 1 highest_first lowest_first two_bytes (pos 1 ∷ []) ∙ check_yes_only 2 1 lowest_first two_bytes (pos 1 ∷ []) low_legal _ (c.keeps 2 1 lowest_first two_bytes (pos 1 ∷ []))) in
    high_illegal (check_yes 2 1 highest_first two_bytes (pos 1 ∷ []) _ (c.keeps 2 1 highest_first two_bytes (pos 1 ∷ [])) yes)

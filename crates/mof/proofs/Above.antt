-- MOF from the top place down, a stretch at a time: its digits are put where a window of one place opens. Assumes nothing.
use mathlib.Core.Path.{◌≡◌, sym, ap, ◌∙◌}
use mathlib.Core.Logic.{◌≢◌}
use mathlib.Core.List.{List}
use Prim.Native.Nat.{ℕ, suc, ◌+◌, ◌*◌, ◌-◌, ◌/◌, ◌%◌, ◌^◌, ◌<◌, ◌≤◌}
use native.Mathlib.Omega.{arith}
use native.Mathlib.Decide.{dec_lt, ℕ_discrete}
use native.Mathlib.Nat.{add-zero}
use lib.IntN.{ℤ, pos, nat_abs, ◌-ℤ◌}
use lib.ListN.{length, get_or, set, length-set}
use lib.Seq.{get_or-set_same, get_or-set_other, ext_get_or}
use Rattle.meaning.specs.Scalars.{bit, below}
use Rattle.meaning.specs.Mof.{mof_digit, mof}
use Rattle.forms.proofs.Mof.{mof_length, mof_at}
use Rattle.laws.proofs.Integers.{diffs, ring, minus, sub_zero_same}
use Rattle.places.specs.Openings.{Highest, openings}
use Rattle.places.proofs.Openings.{clear_put, here, under, none_open, inside, none_over, opens_there, left_open}
use Rattle.mof.specs.Above.{Above}

-- ---- a difference of two numbers
pub same_none : (a b : ℕ) → a ≡ b → pos a -ℤ pos b ≡ pos 0
same_none a b e = rw (minus b) (simp diffs (omega ring))

-- ---- MOF: its digits are put where a window of one place opens
module _ {N n : ℕ} where
  above_pass : {m : ℕ} {d : List ℤ} (i : ℕ) → Above N n m d → i ≤ m → ((q : ℕ) → i ≤ q → q < m → bit N q ≡ below N q) → Above N n i d
  above_pass {m} {d} i a h same =
      record { same_length = a.same_length; within = omega (arith, a.within); stand = λ j l k. go j l k (dec_lt j m); clear = λ j k. a.clear j (omega arith) }
    where
      go : (j : ℕ) → i ≤ j → j < n + 1 → Dec (j < m) → get_or d j (pos 0) ≡ mof_digit N j
      go j l k (yes g) = a.clear j g ∙ sym (same_none (below N j) (bit N j) (sym (same j l g)))
      go j l k (no g) = a.stand j (omega arith) k

  above_put : {d d' : List ℤ} (i : ℕ) (z : ℤ) → Above N n (suc i) d → z ≡ mof_digit N i → d' ≡ set d i z → Above N n i d'
  above_put {d} {d'} i z a v e =
      record {
        same_length = ap length e ∙ length-set d i z ∙ a.same_length;
        within = omega (arith, a.within);
        stand = λ j l k. go j l k (ℕ_discrete j i);
        clear = clear_put d i z (suc i) i a.clear (omega arith) (omega arith) e;
      }
    where
      go : (j : ℕ) → i ≤ j → j < n + 1 → Dec (j ≡ i) → get_or d' j (pos 0) ≡ mof_digit N j
      go j l k (yes f) = ap (λ x. get_or x j (pos 0)) e ∙ rw f (get_or-set_same d i z (pos 0) (omega (arith, a.within, a.same_length)) ∙ v)
      go j l k (no f) = ap (λ x. get_or x j (pos 0)) e ∙ get_or-set_other d i j z (pos 0) f ∙ a.stand j (omega arith) k

  pub above_all : {d : List ℤ} → Above N n 0 d → d ≡ mof N n
  above_all {d} a = ext_get_or (pos 0) d (mof N n) (a.same_length ∙ sym (mof_length N n)) (λ k l. a.stand k (omega arith) (omega (arith, a.same_length)) ∙ sym (mof_at N n k (omega (arith, a.same_length))))

-- a turn: the digits over the places left stand, and the places under them where one stands are told
pub record Told (N n lowest x : ℕ) (opens : ℕ) (d : List ℤ) : Type 0 where
  pub left : ℕ
  pub above : Above N n left d
  pub over : lowest ≤ left
  pub room : left + 1 ≤ lowest + 56
  pub opens_are : opens ≡ openings 0 x (left - lowest)

module _ {N n lowest x opens : ℕ} {d : List ℤ} (same : x % 2 ^ 56 ≡ N * 2 ^ 1 / 2 ^ lowest % 2 ^ 56) (g : Told N n lowest x opens d) where
  abbrev u₁ : ℕ
  u₁ = g.left - lowest

  one₁ : 0 < 1
  one₁ = omega arith

  room₁ : u₁ + 1 ≤ 56
  room₁ = omega (arith, g.room, g.over)

  pub told_end : opens ≡ 0 → Above N n lowest d
  told_end e =
      let all = none_open 1 N lowest x one₁ same u₁ room₁ (sym g.opens_are ∙ e) in
      let at : (q : ℕ) → lowest ≤ q → lowest + (q - lowest) ≡ q = λ q l. omega arith in
      above_pass lowest g.above g.over (λ q l m. rw (at q l) at (all (q - lowest) (omega arith)))

  module _ (r : ℕ) (top : Highest 0 opens r) where
    found₁ : Highest 0 (openings 0 x u₁) r
    found₁ = rw g.opens_are at top

    pub told_under : lowest + r < g.left
    told_under = omega (arith, inside 1 N lowest x one₁ same u₁ room₁ r found₁)

    pub told_digit : pos (x / 2 ^ r % 2) -ℤ pos (x / 2 ^ (r + 1) % 2) ≡ mof_digit N (lowest + r)
    told_digit =
        let h : r + 1 < 56 = omega (arith, told_under, g.room) in
        ap (λ t. pos (x / 2 ^ t % 2) -ℤ pos (x / 2 ^ (r + 1) % 2)) (sym (add-zero r))
        ∙ ap (λ t. pos t -ℤ pos (x / 2 ^ (r + 1) % 2)) (under 1 N lowest x one₁ same r h)
        ∙ ap (λ t. pos (below N (lowest + r)) -ℤ pos t) (here 1 N lowest x one₁ same r h)

    pub told_nonzero : mof_digit N (lowest + r) ≢ pos 0
    told_nonzero e = opens_there 1 N lowest x one₁ same u₁ room₁ r found₁ (ap nat_abs (sym (sub_zero_same (pos (below N (lowest + r))) (pos (bit N (lowest + r))) e)))

    pub told_put : {opens' : ℕ} {d' : List ℤ} (z : ℤ) → z ≡ mof_digit N (lowest + r) → d' ≡ set d (lowest + r) z → opens' ≡ opens % 2 ^ r → Told N n lowest x opens' d'
    told_put z v e o =
        let i = lowest + r in
        let at : (q : ℕ) → suc i ≤ q → lowest + (q - lowest) ≡ q = λ q l. omega arith in
        let passed = above_pass (suc i) g.above (omega (arith, told_under)) (λ q l m. rw (at q l) at (none_over 1 N lowest x one₁ same u₁ room₁ r found₁ (q - lowest) (omega arith) (omega arith))) in
        let k : r + 1 - 1 ≡ i - lowest = omega arith in
        record {
          left = i;
          above = above_put i z passed v e;
          over = omega arith;
          room = omega (arith, told_under, g.room);
          opens_are = o ∙ ap (λ t. t % 2 ^ r) g.opens_are ∙ left_open 1 N lowest x one₁ same u₁ room₁ r found₁ ∙ ap (openings 0 x) k;
        }

-- A reader's state before any call, by the rule that refuses it or by none.
-- Assumes nothing.
use mathlib.Core.Path.{◌≡◌, refl, subst}
use mathlib.Core.Logic.{◌≢◌, ◌⊎◌, inl, inr}
use mathlib.Core.List.{List}
use Prim.Native.Nat.{ℕ, suc, ◌+◌, ◌≤◌, ◌<◌}
use native.Mathlib.Omega.{arith}
use lib.ListN.{length}
use Rattle.laws.proofs.Choices.{not_below}
use Rattle.meaning.specs.Scalars.{Order, code_of, bit_count, most_bytes}
use Rattle.meaning.specs.Digits.{least_width, most_width}
use Rattle.meaning.specs.Reading.{reader_rules, Holds}
use Rattle.forms.proofs.Refusals.{Until, number_at, first_at, first_none, clear}
use Rattle.width.specs.Widths.{Wide}
use Rattle.width.proofs.Widths.{width_fine, wide_of}
use Rattle.reader.specs.declared.State.{State}
use Rattle.reader.specs.States.{ready, after, After}

module _ (w : ℕ) (o : Order) (s : List ℕ) {q : State} where
  -- refused by the rule at index k; each leaves no place to come
  pub starts_none : (k : ℕ) {r : ℕ} → number_at (reader_rules w s) k ≡ suc r → Until (reader_rules w s) k 0 → q ≡ ready (suc r) w (code_of o) 0 → After w o s 0 q
  unfolding after
  starts_none k n u e = rw e (record { holds = rw n at (first_at (reader_rules w s) k 0 u); state_is = refl })

  -- accepted
  pub starts_all : Wide w → length s ≤ most_bytes → q ≡ ready 0 w (code_of o) (bit_count s + 1) → After w o s 0 q
  unfolding after
  starts_all l h e = rw e (record { holds = first_none (reader_rules w s) (width_fine l, ((λ m. omega arith), tt)); state_is = refl })

-- ---- what an acceptance tells
pub held_wide : (w : ℕ) (s : List ℕ) → Holds w s 0 → Wide w
held_wide w s h = wide_of w (clear (reader_rules w s) tt 0 0 h refl).0

pub held_short : (w : ℕ) (s : List ℕ) → Holds w s 0 → length s ≤ most_bytes
held_short w s h = not_below (clear (reader_rules w s) tt 0 0 h refl).1.0

-- so where there is no width something is refused
pub bad_refused : (w : ℕ) (s : List ℕ) {r : ℕ} → Holds w s r → (w < least_width) ⊎ (most_width < w) → r ≢ 0
bad_refused w s h (inl b) z = let wide = held_wide w s (subst (λ x. Holds w s x) z h) in omega (arith, wide.0)
bad_refused w s h (inr b) z = let wide = held_wide w s (subst (λ x. Holds w s x) z h) in omega (arith, wide.1)

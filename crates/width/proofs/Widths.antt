-- What is known of widths and sets, and of bytes that are none.
-- Assumes nothing.
use mathlib.Core.Path.{◌≡◌, refl, ap}
use mathlib.Core.Logic.{◌⊎◌, inl, inr, ⊎_elim}
use mathlib.Core.Bool.{Bool, true, false, cond, ◌&&◌}
use mathlib.Core.List.{List, ◌++◌}
use Prim.Native.Nat.{ℕ, ◌+◌, ◌*◌, ◌-◌, ◌%◌, ◌^◌, ◌≤◌, ◌<◌}
use native.Mathlib.Omega.{arith}
use native.Mathlib.Decide.{dec_lt, ℕ_discrete}
use borrow.Author.Tests.{leb-true, leb-false, le-leb, lt-leb}
use lib.Dec.{leb}
use lib.Pow.{pow_pos, pow_mono}
use Rattle.laws.proofs.Choices.{not_below}
use Rattle.laws.proofs.Shifts.{doubled}
use Rattle.laws.proofs.Powers.{pow_pred}
use Rattle.meaning.specs.Digits.{least_width, most_width, largest, entries}
use Rattle.meaning.specs.Sets.{Pair}
use Rattle.meaning.specs.Refusals.{Rule, Fails, bad_width, bad_set, set_rules}
use Rattle.forms.proofs.Refusals.{Until, number_at}
use Rattle.width.specs.declared.Width.{Width}
use Rattle.width.specs.Widths.{Wide, Whole, Reaches, fault_of, Tried}
use Rattle.refusals.specs.declared.Reason.{Reason}
use Rattle.refusals.specs.Coded.{coded}
use Rattle.refusals.specs.declared.Reason.TheVariants.{BadSet}
use Rattle.std.specs.Prelude.{Option, Some, None, Err}
use Rattle.std.specs.Option.{ok_or}

-- ---- the largest digit
-- there is one, and it is odd and a signed byte
pub pair_some : {w m : ℕ} → Pair w m → 1 ≤ m
pair_some p = omega (arith, p.between.odd)

pub pair_small : {w m : ℕ} → Pair w m → m < 128
pair_small {w} {m} p = go (dec_lt (largest w) m)
  where
    go : Dec (largest w < m) → m < 128
    go (yes h) = omega (arith, p.between.most, pow_mono {i = w} {j = 7} (omega (arith, p.above h)))
    go (no h) = omega (arith, pow_mono {i = w - 1} {j = 7} (omega (arith, p.most)))

-- so that its entries fit a word
pub pair_sized : {w m : ℕ} → Pair w m → (1 ≤ m) × (m < 4096)
pair_sized p = (pair_some p, omega (arith, pair_small p))

-- there are from 1 to 64 of them; at a whole width 2 ^ (w - 2)
pub entries_some : {w m : ℕ} → Pair w m → (1 ≤ entries m) × (entries m ≤ 64)
entries_some p = (omega (arith, pair_some p), omega (arith, pair_small p))

pub entries_whole : (w : ℕ) → 2 ≤ w → entries (largest w) ≡ 2 ^ (w - 2)
entries_whole w two = omega (arith, doubled w two, pow_pos (w - 1))

-- and 2 ^ (w - 1) + 1 digits with 0 and the negatives
pub digits_whole : (w : Width) → Whole w → 2 * entries w.largest + 1 ≡ 2 ^ (w.bits - 1) + 1
digits_whole w (h, e) = omega (arith, ap entries e, entries_whole w.bits h.0, doubled w.bits h.0)

-- a whole width is a set
pub whole_pair : {w : ℕ} → Wide w → Pair w (largest w)
whole_pair {w} h =
    let half = pow_pred w (omega arith) in
    let quarter = pow_pred (w - 1) (omega arith) in
    record {
      between = record { wide = h.0; odd = omega (arith, pow_pos (w - 1 - 1)); least = omega arith; most = omega (arith, pow_pos (w - 1)) };
      most = h.1;
      above = λ l. absurd (omega arith);
    }

-- ---- the rule of a bad width
-- a width is not refused
pub width_fine : {w : ℕ} → Wide w → Fails (bad_width w)
width_fine (l, m) = ⊎_elim (λ h. omega arith) (λ h. omega arith)

-- and what is not refused is one
pub wide_of : (w : ℕ) → Fails (bad_width w) → Wide w
wide_of w n = (not_below (λ h. n (inl h)), not_below (λ h. n (inr h)))

-- ---- the rules of a set
pub pair_wide : {w m : ℕ} → Pair w m → Wide w
pair_wide p = (p.between.wide, p.most)

-- a set is not refused
pub set_fine : {w m : ℕ} → Pair w m → Fails (bad_width w) × Fails (bad_set w m)
set_fine p = (width_fine (pair_wide p), λ n. n p)

-- what is none is, for its fault: where the rules of a call begin with those of a set, the one at index 0 or 1 is the first that applies
pub set_refused : (rules : List Rule) {more : List Rule} {w m : ℕ} (e : Reason) → rules ≡ set_rules w m ++ more → Tried w m (Err e)
    → (i : ℕ) × (coded e ≡ number_at rules i) × Until rules i 0
unfolding fault_of
set_refused rules {more} {w} {m} e begin (none, fault) = rw begin (go (leb least_width w) (leb w most_width) refl refl fault)
  where
    go : (p q : Bool) → leb least_width w ≡ p → leb w most_width ≡ q → coded e ≡ cond (p && q) 22 2 → (i : ℕ) × (coded e ≡ number_at (set_rules w m ++ more) i) × Until (set_rules w m ++ more) i 0
    go true true a b f = (1, f, (width_fine (leb-true least_width w a, leb-true w most_width b), (none, refl)))
    go true false a b f = (0, f, (inr (leb-false w most_width b), refl))
    go false q a b f = (0, f, (inl (leb-false least_width w a), refl))

-- and what is not refused is one
pub pair_of : (w m : ℕ) → Fails (bad_set w m) → Pair w m
pair_of w m n =
    record {
      between = record {
        wide = not_below (λ h. n (λ p. omega (arith, p.between.wide)));
        odd = odd (ℕ_discrete (m % 2) 1);
        least = not_below (λ h. n (λ p. omega (arith, p.between.least)));
        most = not_below (λ h. n (λ p. omega (arith, p.between.most)));
      };
      most = not_below (λ h. n (λ p. omega (arith, p.most)));
      above = λ l. not_below (λ h. n (λ p. omega (arith, p.above l)));
    }
  where
    odd : Dec (m % 2 ≡ 1) → m % 2 ≡ 1
    odd (yes e) = e
    odd (no f) = absurd (n (λ p. f p.between.odd))

-- ---- the tests of a set
-- a byte that is no width has none, and is refused for it
pub outside_none : {w : ℕ} (m : ℕ) → (w < least_width) ⊎ (most_width < w) → Pair w m → ⊥
outside_none m h p = width_fine (pair_wide p) h

pub outside_fault : {w : ℕ} → (w < least_width) ⊎ (most_width < w) → 2 ≡ fault_of w
unfolding fault_of
outside_fault {w} (inl h) = simp (lt-leb _ _ h)
outside_fault {w} (inr h) = go (leb least_width w)
  where
    go : (p : Bool) → ◌≡◌ {A = ℕ} 2 (cond (p && leb w most_width) 22 2)
    go true = simp (lt-leb _ _ h)
    go false = refl

-- a width that has none is refused for the largest digit
pub inside_fault : {w : ℕ} → Wide w → 22 ≡ fault_of w
unfolding fault_of
inside_fault h = simp (le-leb _ _ h.0, le-leb _ _ h.1)

-- so what is tried of a width and a largest digit is what the two make
pub tried_set : (w m : ℕ) (o : Option Width) → Wide w → Reaches w m o → Tried w m (ok_or o BadSet)
tried_set w m (Some x) wide is = is
tried_set w m None wide is = (is, inside_fault wide)

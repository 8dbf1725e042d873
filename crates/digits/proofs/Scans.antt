-- Whether all digits of a string are in their set: with one digit more, and where there is a digit that is not. Assumes nothing.
use mathlib.Core.Path.{◌≡◌, refl, sym, ap, ◌∙◌, subst}
use mathlib.Core.Bool.{Bool, true, false, not, ◌&&◌}
use mathlib.Core.List.{List, [], ◌∷◌, ◌++◌}
use Prim.Native.Nat.{ℕ, ◌+◌, ◌<◌, ◌≤◌}
use native.Mathlib.Numerals.{add-one}
use native.Mathlib.Omega.{arith}
use native.Mathlib.Decide.{ℕ_discrete}
use borrow.Author.Tests.{eq-eqb, ne_eqb}
use mir.Syntax.{w8}
use mir.Val.{SFits, of_z, bool_byte}
use lib.Dec.{T, T_not, eqb}
use lib.IntN.{ℤ, pos}
use lib.ListN.{length, get_or, take}
use lib.Seq.{take-suc}
use Rattle.laws.proofs.Signed.{bits_none, bits_some}
use Rattle.forms.proofs.Strings.{all_in_is, all_at, nonzero_one, nonzero_none}
use Rattle.meaning.specs.Digits.{in_set, all_in, nonzero}
use Rattle.meaning.specs.Checking.{BadDigit}

-- a test's flag, as the code has it
pub flag : {b : Bool} → b ≡ true → T b
flag e = subst T (sym e) tt

-- 1 where the bits of a digit are not those of 0
pub told_nonzero : (d : ℤ) → SFits w8 d → bool_byte (not (eqb (of_z w8 d) 0)) ≡ nonzero d
told_nonzero d h = go (ℕ_discrete (of_z w8 d) 0)
  where
    go : Dec (of_z w8 d ≡ 0) → bool_byte (not (eqb (of_z w8 d) 0)) ≡ nonzero d
    go (yes e) = rw (eq-eqb (of_z w8 d) 0 e) (sym (nonzero_none (bits_none w8 d h e)))
    go (no n) = rw (ne_eqb (of_z w8 d) 0 n) (sym (nonzero_one d (bits_some w8 d n)))

-- ---- one digit more
and_true : (p : Bool) → p && true ≡ p
and_true true = refl
and_true false = refl

and_assoc : (p q r : Bool) → p && (q && r) ≡ (p && q) && r
and_assoc true q r = refl
and_assoc false q r = refl

all_snoc : (m : ℕ) (ds : List ℤ) (d : ℤ) → all_in m (ds ++ (d ∷ [])) ≡ all_in m ds && in_set m d
unfolding all_in
all_snoc m [] d = and_true (in_set m d)
all_snoc m (x ∷ ds) d = ap (λ b. in_set m x && b) (all_snoc m ds d) ∙ and_assoc (in_set m x) (all_in m ds) (in_set m d)

pub all_next : (m : ℕ) (ds : List ℤ) (i : ℕ) → i < length ds → all_in m (take (i + 1) ds) ≡ all_in m (take i ds) && in_set m (get_or ds i (pos 0))
all_next m ds i h = rw add-one (ap (all_in m) (take-suc ds i (pos 0) h) ∙ all_snoc m (take i ds) (get_or ds i (pos 0)))

-- ---- bad digits
module _ (m : ℕ) (ds : List ℤ) where
  -- the digits under place i are in the set
  abbrev pub Passed : ℕ → Type 0
  Passed i = (p : ℕ) → p < i → T (in_set m (get_or ds p (pos 0)))

  -- a digit in the set is not bad
  none_bad : (p : ℕ) → T (in_set m (get_or ds p (pos 0))) → BadDigit m ds p → ⊥
  none_bad p t b = T_not (in_set m (get_or ds p (pos 0))) b.bad t

  -- there is one
  pub pass_all : (i : ℕ) → Passed i → length ds ≤ i → all_in m ds ≡ false → ⊥
  pass_all i h l e = subst T e (all_in_is m ds (λ p m. h p (omega arith)))

  -- and where all are in the set there is none
  pub sound_all : all_in m ds ≡ true → (p : ℕ) → BadDigit m ds p → ⊥
  sound_all e p b = none_bad p (all_at m ds (flag e) p b.within) b

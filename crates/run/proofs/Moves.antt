-- A move over a list of multiples, and what a chip's loop over the words keeps: `walk`'s own laws, and that the value is one of the chip's. Assumes nothing.
use mathlib.Core.Path.{◌≡◌, sym}
use mathlib.Core.List.{List}
use Prim.Native.Nat.{ℕ, ◌+◌, ◌-◌, ◌%◌, ◌<◌, ◌≤◌}
use native.Mathlib.Nat.{add-mod-mod}
use native.Mathlib.Omega.{arith}
use lib.ListN.{length}
use Rattle.meaning.specs.Words.{most_words, minus}
use Rattle.meaning.specs.Walks.{Carrier, Table}
use Rattle.walk.proofs.Steps.{Walking}
use Rattle.run.specs.declared.State.{State}
use Rattle.run.specs.Walks.{entry_in, table_of, Steady}

-- ---- one move
module _ (m : ℕ) (multiples : List ℕ) where
  -- a subtraction as the code has it
  pub less_is : (x e : ℕ) → (x + (m - entry_in multiples e)) % m ≡ (x + table_of m multiples minus e) % m
  less_is x e = sym (add-mod-mod x (m - entry_in multiples e) m)

-- ---- the words before index i
pub record Going (C : Carrier ℕ) (t : Table ℕ) (Value : ℕ → Type 0) (ws : List ℕ) (s : State) (i : ℕ) : Type 0 where
  pub value : Value s.value
  pub walking : Walking C t ws s.value s.doublings s.additions i

module _ {C : Carrier ℕ} {t : Table ℕ} {Value : ℕ → Type 0} {ws : List ℕ} where
  -- a word more can be taken
  pub goes_steady : {s : State} {i : ℕ} → Going C t Value ws s i → i < length ws → length ws ≤ most_words → Steady Value s
  goes_steady h l k =
      record {
        value = h.value;
        doublings_few = omega (arith, h.walking.doublings_few);
        additions_few = omega (arith, h.walking.additions_few);
      }

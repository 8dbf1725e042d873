-- A loop that stores the entries of a run one after the other: what it keeps, over any entries. Assumes nothing.
use mathlib.Core.Path.{◌≡◌, sym, ◌∙◌}
use mathlib.Core.List.{List}
use Prim.Native.Nat.{ℕ, ◌+◌, ◌<◌}
use native.Mathlib.Omega.{arith}
use lib.ListN.{length, set}
use Rattle.laws.proofs.Stores.{Filled, fill_none, fill_more}
use Rattle.meaning.specs.Digits.{listed}
use Rattle.forms.proofs.Listed.{listed_length, listed_first}

module _ (f : ℕ → ℕ) (count : ℕ) (d₀ : List ℕ) where
  -- the first e entries are stored, and x is the next
  pub record Storing (d : List ℕ) (x e : ℕ) : Type 0 where
    pub filled : Filled (listed f 0 count) d₀ d e
    pub next_is : x ≡ f e

  pub stores_none : {x : ℕ} → x ≡ f 0 → Storing d₀ x 0
  stores_none p = record { filled = fill_none (listed f 0 count) d₀; next_is = p }

  pub stores_more : {d : List ℕ} {x y e : ℕ} → Storing d x e → e < count → e < length d → y ≡ f (e + 1) → Storing (set d e x) y (e + 1)
  stores_more {d} {x} {y} {e} h l n p =
      record {
        filled = fill_more (listed f 0 count) d₀ d e x 0 h.filled (omega (arith, listed_length f 0 count)) n (h.next_is ∙ sym (listed_first f count e 0 l));
        next_is = p;
      }

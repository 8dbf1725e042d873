-- Places cleared from one that is not 0 to the next. Assumes nothing.
use mathlib.Core.Path.{◌≡◌, sym, ap, ◌∙◌}
use mathlib.Core.List.{List}
use Prim.Native.Nat.{ℕ, ◌+◌, ◌-◌, ◌<◌}
use native.Mathlib.Decide.{dec_lt, ℕ_discrete}
use native.Mathlib.Omega.{arith}
use lib.IntN.{ℤ, pos}
use lib.ListN.{length, get_or, drop, set, length-set}
use lib.Seq.{get_or-drop}
use Rattle.std.proofs.Math.ListN.{replicate}
use Rattle.std.proofs.lemmas.List.{ext_get_or, get_or-set_other, get_or-set_same, length-replicate, get_or-replicate}

-- the places under k are 0
pub record Cleared (d₀ d : List ℤ) (k : ℕ) : Type 0 where
  pub same_length : length d ≡ length d₀
  pub zeros : (j : ℕ) → j < k → get_or d j (pos 0) ≡ pos 0

module _ (d₀ d : List ℤ) (k : ℕ) (C : Cleared d₀ d k) where
  -- so are n places more from k on, if they are 0 in what follows
  past : (n : ℕ) → ((i : ℕ) → i < n → get_or (drop k d) i (pos 0) ≡ pos 0) → (j : ℕ) → j < k + n → get_or d j (pos 0) ≡ pos 0
  past n z j h = by (dec_lt j k)
    where
      by : Dec (j < k) → get_or d j (pos 0) ≡ pos 0
      by (yes l) = C.zeros j l
      by (no l) =
          let e : k + (j - k) ≡ j = omega arith in
          sym (get_or-drop k d (j - k) (pos 0) ∙ ap (λ i. get_or d i (pos 0)) e) ∙ z (j - k) (omega arith)

  -- and the one after them is set
  pub cleared_next : (n : ℕ) → ((i : ℕ) → i < n → get_or (drop k d) i (pos 0) ≡ pos 0) → k + n < length d → Cleared d₀ (set d (k + n) (pos 0)) (k + (n + 1))
  cleared_next n z l = record { same_length = length-set d (k + n) (pos 0) ∙ C.same_length; zeros = λ j h. by j h (ℕ_discrete j (k + n)) }
    where
      by : (j : ℕ) → j < k + (n + 1) → Dec (j ≡ k + n) → get_or (set d (k + n) (pos 0)) j (pos 0) ≡ pos 0
      by j h (yes q) = rw q (get_or-set_same d (k + n) (pos 0) (pos 0) l)
      by j h (no q) = get_or-set_other d (k + n) j (pos 0) (pos 0) q ∙ past n z j (omega arith)

  -- where all that follow are 0, all are
  pub cleared_all : ((i : ℕ) → i < length d - k → get_or (drop k d) i (pos 0) ≡ pos 0) → d ≡ replicate (length d₀) (pos 0)
  cleared_all z =
      ext_get_or (pos 0) d (replicate (length d₀) (pos 0)) (C.same_length ∙ sym (length-replicate (length d₀) (pos 0)))
      (λ j l. past (length d - k) z j (omega arith) ∙ sym (get_or-replicate (length d₀) j (pos 0) (pos 0) (omega (arith, C.same_length))))

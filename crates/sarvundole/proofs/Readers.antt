-- What the two calls of a reader for C give together, by their promises alone: started from w and s, in an order, the call after k others gives what `sarvundole_read_at`
-- promises. And from any reader two answers of a call are one. Assumes nothing.
use mathlib.Core.Path.{◌≡◌, refl, sym, ap, ◌∙◌}
use mathlib.Core.List.{List}
use Prim.Native.Nat.{ℕ, zero, suc}
use lib.IntN.{ℤ}
use Rattle.meaning.specs.Scalars.{Order}
use Rattle.reader.specs.declared.State.{State}
use Rattle.reader.specs.States.{After}
use Rattle.sarvundole.specs.declared.exported.Reader.{Reader}
use Rattle.sarvundole.specs.Reads.{Reads}
use Rattle.sarvundole.specs.Kept.{state_of}
use Rattle.sarvundole.specs.Steps.{Steps}

-- a reader started from w and s, and all that `sarvundole_reader_next` makes of it and gives
module _ (w : ℕ) (o : Order) (s : List ℕ) (readers : ℕ → Reader) (given : ℕ → ℕ) (digits : ℕ → ℤ) (started : After w o s 0 (state_of (readers 0)))
    (stepped : (k : ℕ) → Steps s (state_of (readers k)) (state_of (readers (suc k))) (given k) (digits k)) where
  -- the number stays held
  refusal_at : (k : ℕ) → (readers k).refusal ≡ (readers 0).refusal
  refusal_at zero = refl
  refusal_at (suc k) = ap (λ q. q.refusal) (stepped k).after_is ∙ refusal_at k

  -- the reader has been called k times
  state_at : (k : ℕ) → After w o s k (state_of (readers k))
  state_at zero = started
  state_at (suc k) = (stepped k).counts w o k (state_at k)

  -- and the next call gives its sequence's digit at k
  pub reads_at : (k : ℕ) → Reads w o s k (readers 0).refusal (given k) (digits k)
  reads_at k =
      record {
        holds = started.holds;
        given_is = rw (refusal_at k) at ((stepped k).reads_given w o k (state_at k));
        digit_is = rw (refusal_at k) at ((stepped k).reads_digit w o k (state_at k));
      }

-- a call, from any reader
pub next_determined : {s : List ℕ} {q a b : State} {g h : ℕ} {d e : ℤ} → Steps s q a g d → Steps s q b h e → (a ≡ b) × (g ≡ h) × (d ≡ e)
next_determined A B = (A.after_is ∙ sym B.after_is, A.given_is ∙ sym B.given_is, A.digit_is ∙ sym B.digit_is)

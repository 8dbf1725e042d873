-- What a reader gives, told by plain numbers.
-- Assumes nothing.
use mathlib.Core.Path.{◌≡◌, subst, sym, ap, ap₂, ◌∙◌}
use mathlib.Core.List.{List}
use Prim.Native.Nat.{ℕ, suc}
use lib.IntN.{ℤ}
use Rattle.meaning.specs.Scalars.{Order}
use Rattle.reader.specs.declared.Reading.{Reading}
use Rattle.reader.specs.declared.State.{State}
use Rattle.reader.specs.declared.Taken.{Taken}
use Rattle.reader.specs.States.{call, moved, After}
use Rattle.reader.specs.Calls.{read_of, Answered}
use Rattle.reader.proofs.Calls.{after_call, after_reads}
use Rattle.sarvundole.specs.Reads.{given, digit_of, Tells, Reads}
use Rattle.sarvundole.specs.Steps.{Steps}

-- a reading whose call is told by g and d
pub read : {w : ℕ} {o : Order} {s : List ℕ} {k : ℕ} {r : Reading} {g : ℕ} {d : ℤ} → Answered w o s k r → Tells r.next g d → Reads w o s k r.refusal g d
read a t = record { holds = a.holds; given_is = t.given_is ∙ ap given a.gives; digit_is = t.digit_is ∙ ap digit_of a.gives }

-- a call that takes t from a state, and is told by g and d
pub stepped : {s : List ℕ} {before state after : State} {t : Taken} {g : ℕ} {d : ℤ} → state ≡ before → t ≡ call s state → after ≡ moved state t → Tells t.next g d
    → Steps s before after g d
stepped {s} {before} {state} {after} {t} {g} {d} b e m p =
    let taken : t ≡ call s before = e ∙ ap (call s) b in
    let shown : read_of t.next ≡ read_of (call s before).next = ap (λ y. read_of y.next) taken in
    let left : after ≡ moved before (call s before) = m ∙ ap₂ moved b taken in
    record {
      given_is = p.given_is ∙ ap given shown;
      digit_is = p.digit_is ∙ ap digit_of shown;
      after_is = left;
      reads_given = λ w o k A. p.given_is ∙ ap given (shown ∙ after_reads A);
      reads_digit = λ w o k A. p.digit_is ∙ ap digit_of (shown ∙ after_reads A);
      counts = λ w o k A. subst (After w o s (suc k)) (sym left) (after_call A);
    }

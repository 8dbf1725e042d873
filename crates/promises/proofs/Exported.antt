-- The functions for C whose answers are structs of C's own: two outcomes that satisfy the promise of one of them for one input are equal. The other functions answer with
-- structs that are made by `From` of what the calls answer, and have the calls' promises. Assumes nothing.
use mathlib.Core.Path.{◌≡◌, sym, ap, ◌∙◌}
use mathlib.Core.List.{List}
use Prim.Native.Nat.{ℕ}
use lib.IntN.{ℤ}
use Rattle.meaning.specs.Scalars.{Order}
use Rattle.meaning.specs.Running as Running
use Rattle.meaning.specs.Running.{Run}
use Rattle.meaning.specs.Reading.{sequence, read_at}
use Rattle.sarvundole.specs.declared.exported.Ran.{Ran}
use Rattle.sarvundole.specs.declared.exported.Reading.{Reading}
use Rattle.sarvundole.specs.Runs.{ran}
use Rattle.sarvundole.specs.Reads.{given, digit_of, Reads}
use Rattle.promises.proofs.Run.{run_plain}
use Rattle.promises.proofs.Reader.{same_number}

-- ---- run: the struct has the plain numbers of the answer
pub c_ran_same : (a b : Ran) → ran a ≡ ran b → a ≡ b
c_ran_same a b q = ap plain q
  where
    plain : Running.Ran → Ran
    plain r = record { refusal = r.refusal; place = r.place; residue = r.residue; doublings = r.doublings; additions = r.additions; cost = record { doublings = r.cost.doublings; additions = r.cost.additions } }

pub c_run_determined : (w l : ℕ) (ws : List ℕ) (m g : ℕ) (multiples₀ : List ℕ) (a b : Ran) (ms ns : List ℕ) → Run w l ws m g multiples₀ (ran a) ms → Run w l ws m g multiples₀ (ran b) ns → (a ≡ b) × (ms ≡ ns)
c_run_determined w l ws m g multiples₀ a b ms ns K L = let (q, e) = run_plain w l ws m g multiples₀ (ran a) (ran b) ms ns K L in (c_ran_same a b q, e)

-- ---- the reader
pub c_read_at_determined : (w : ℕ) (order : Order) (s : List ℕ) (k : ℕ) (a b : Reading) → Reads w order s k a.refusal a.given a.digit → Reads w order s k b.refusal b.given b.digit → a ≡ b
c_read_at_determined w order s k a b K L =
    let r = same_number w s a.refusal b.refusal K.holds L.holds in
    let g = K.given_is ∙ ap (λ x. given (read_at (sequence x w order s) k)) r ∙ sym L.given_is in
    let d = K.digit_is ∙ ap (λ x. digit_of (read_at (sequence x w order s) k)) r ∙ sym L.digit_is in
    let same : made a.refusal a.given a.digit ≡ made b.refusal b.given b.digit = cc in
    same
  where
    made : (r g : ℕ) (d : ℤ) → Reading
    made r g d = record { refusal = r; given = g; digit = d }

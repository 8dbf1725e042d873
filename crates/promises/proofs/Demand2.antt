-- Demand 2. Each form is digit for digit the one that its paper defines, from scalar to digits; the check says yes for exactly the strings that are legal and worth the
-- scalar; and running the tape of such a string gives the scalar times the base, as a residue of the given modulus. From the calls' promises alone. Assumes nothing.
use mathlib.Core.Path.{◌≡◌, sym, ap, subst, ◌∙◌}
use mathlib.Core.List.{List, []}
use Prim.Native.Nat.{ℕ, ◌+◌, ◌^◌, ◌<◌}
use lib.IntN.{ℤ, pos, ◌*ℤ◌}
use lib.ListN.{length, take}
use lib.Seq.{take_at}
use Rattle.meaning.specs.Scalars.{Order, number, bit_count}
use Rattle.meaning.specs.Digits.{worth, Tally}
use Rattle.meaning.specs.Sets.{Between}
use Rattle.meaning.specs.Forms.{FormIn}
use Rattle.meaning.specs.Checking.{check_rules}
use Rattle.meaning.specs.Running.{Residue, Run, Ran}
use Rattle.forms.proofs.Forms.{form_length, form_worth}
use Rattle.scalar.proofs.Bytes.{Bytes, number_lt}
use Rattle.run.proofs.Together.{together}
use Rattle.promises.proofs.Recode as Recoding
use Rattle.promises.proofs.Recode.{accepted_set}
use Rattle.promises.proofs.Below as Below
use Rattle.promises.proofs.Below.{below_plain}
use Rattle.promises.proofs.Tape as Taping
use Rattle.promises.proofs.Check as Checking

module _ (form w l : ℕ) {order : Order} {s : List ℕ} {digits₀ : List ℤ} {marks₀ : List ℕ} (o : Recoding.Outcome) (K : Recoding.Keeps form w l order s digits₀ marks₀ o)
    (z : o.tally.refusal ≡ 0) (bytes : Bytes s) where
  small : number order s < 2 ^ bit_count s
  small = number_lt order s bytes

  set : Between w l
  set = (accepted_set [] form w l s (length digits₀) (length marks₀) o.tally.place K.first z).0.between

  -- the n + 1 digits of an accepted recode are the string that its promise speaks of
  pub recoded_string : take (bit_count s + 1) o.digits ≡ (K.accepted z).string
  recoded_string =
      let A = K.accepted z in
      ap (take (bit_count s + 1)) A.digits_are ∙ take_at A.string _ (bit_count s + 1) (form_length w l (number order s) (bit_count s) set small form A.string A.formed)

  -- which is the form's, digit for digit
  pub recoded_form : FormIn form w l (number order s) (bit_count s) (take (bit_count s + 1) o.digits)
  recoded_form = subst (λ ds. FormIn form w l (number order s) (bit_count s) ds) (sym recoded_string) (K.accepted z).formed

  -- and worth the scalar
  pub recoded_worth : worth (take (bit_count s + 1) o.digits) ≡ pos (number order s)
  recoded_worth = form_worth w l (number order s) (bit_count s) set small form (take (bit_count s + 1) o.digits) recoded_form

-- so of an accepted call that takes a group's order
module _ (form w l : ℕ) {order : Order} {s : List ℕ} (group : List ℕ) {digits₀ : List ℤ} {marks₀ : List ℕ} (o : Recoding.Outcome) (K : Below.Keeps form w l order s group digits₀ marks₀ o)
    (z : o.tally.refusal ≡ 0) (bytes : Bytes s) where
  pub below_form : FormIn form w l (number order s) (bit_count s) (take (bit_count s + 1) o.digits)
  below_form = recoded_form form w l o (below_plain form w l order s group digits₀ marks₀ o K z) z bytes

  pub below_worth : worth (take (bit_count s + 1) o.digits) ≡ pos (number order s)
  below_worth = recoded_worth form w l o (below_plain form w l order s group digits₀ marks₀ o K z) z bytes

-- the check says yes for exactly the legal strings that are worth the scalar
pub check_says : (w l : ℕ) (order : Order) (s : List ℕ) (ds : List ℤ) (v : Tally) → Checking.Keeps (check_rules w l order s ds) ds v → (v.refusal ≡ 0 → Checking.Legal w l order s ds) × (Checking.Legal w l order s ds → v.refusal ≡ 0)
check_says w l order s ds v K = (Checking.check_yes w l order s ds v K, λ L. ap (λ (x : Tally). x.refusal) (Checking.check_yes_only w l order s ds L v K))

-- running the tape of a string that is worth the scalar gives the scalar times the base
pub run_gives_scalar : (w l : ℕ) {m g : ℕ} {ds : List ℤ} {words₀ multiples₀ multiples : List ℕ} (N : ℕ) → worth ds ≡ pos N → (t : Taping.Outcome) → Taping.Keeps w l ds words₀ t → t.taped.refusal ≡ 0
    → (r : Ran) → Run w l (take t.taped.words t.words) m g multiples₀ r multiples → r.refusal ≡ 0 → Residue m (pos N *ℤ pos g) r.residue
run_gives_scalar w l {m} {g} N e t K z r P y = subst (λ v. Residue m (v *ℤ pos g) r.residue) e (together w l K z P y).residue_is

-- so of a string that the check accepted
pub checked_run : (w l : ℕ) {m g : ℕ} {ds : List ℤ} {words₀ multiples₀ multiples : List ℕ} (order : Order) (s : List ℕ) (v : Tally) → Checking.Keeps (check_rules w l order s ds) ds v → v.refusal ≡ 0
    → (t : Taping.Outcome) → Taping.Keeps w l ds words₀ t → t.taped.refusal ≡ 0
    → (r : Ran) → Run w l (take t.taped.words t.words) m g multiples₀ r multiples → r.refusal ≡ 0 → Residue m (pos (number order s) *ℤ pos g) r.residue
checked_run w l {ds = ds} order s v C c t K z r P y = run_gives_scalar w l (number order s) (Checking.check_yes w l order s ds v C c).worth_is t K z r P y

-- A string's tape and its run over powers together, from the promises of the two calls alone: the run of an accepted string's tape is refused only for the modulus, the room
-- for the powers or the inverse, and an accepted one reaches the base to the string's worth, with top - 1 squarings and weight - 1 multiplications. Assumes nothing.
use mathlib.Core.Path.{◌≡◌, ap, ◌∙◌, subst}
use mathlib.Core.Logic.{◌≢◌, ⊎_elim}
use mathlib.Core.List.{List}
use Prim.Native.Nat.{ℕ, ◌-◌, ◌*◌, ◌%◌, ◌^◌, ◌≤◌}
use native.Mathlib.Omega.{arith}
use lib.IntN.{ℤ, pos}
use lib.ListN.{length, take}
use Rattle.meaning.specs.Digits.{entries, worth, weight, top}
use Rattle.meaning.specs.Walks.{tape_value, doublings, additions}
use Rattle.meaning.specs.Taping as Taping
use Rattle.meaning.specs.Taping.{Tape}
use Rattle.meaning.specs.Running.{BadWord, Ran}
use Rattle.meaning.specs.Powering.{power_rules, power, Powers}
use Rattle.forms.proofs.Refusals.{first_only, first_none, granted_all}
use Rattle.width.proofs.Widths.{set_fine, pair_sized}
use Rattle.walk.proofs.Lengths.{tape_fits}
use Rattle.walk.proofs.Tapes.{Faithful, faithful, tape_good}
use Rattle.tape.proofs.Refusals.{accepted, written_words}

-- what the run of a string's tape reports
pub record Done (m g i : ℕ) (ds : List ℤ) (r : Ran) : Type 0 where
  pub power_is : r.residue ≡ power m g i (worth ds)
  pub doublings_are : r.doublings ≡ top ds - 1
  pub additions_are : r.additions ≡ weight ds - 1

module _
    (w l : ℕ) {m g i : ℕ} {ds : List ℤ} {words₀ words powers₀ inverses₀ powers inverses : List ℕ} {a : Taping.Taped} {r : Ran}
    (t : Tape w l ds words₀ a words) (z : a.refusal ≡ 0) (p : Powers w l (take a.words words) m g i powers₀ inverses₀ r powers inverses) where
  -- the run is accepted where the modulus is not 0, the powers have room and the inverse is one
  pub together_accepted : m ≢ 0 → entries l ≤ length powers₀ → entries l ≤ length inverses₀ → g * i % m ≡ 1 % m → r.refusal ≡ 0
  together_accepted n room room' inverse =
      let s = accepted w l t z in
      let ws = take a.words words in
      let rules = power_rules w l ws m g i (length powers₀) (length inverses₀) in
      let (one, few) = pair_sized s.pair in
      let bad : (q : ℕ) → BadWord (entries l) ws q → ⊥ =
      λ q b. let c = subst (λ xs. BadWord (entries l) xs q) (written_words w l t z) b in c.bad (tape_good l one few ds s.sound q c.within) in
      (first_only rules p.first
      (first_none rules
      ((set_fine s.pair).0, ((set_fine s.pair).1, (n, ((λ h. omega (arith, ap length (written_words w l t z), tape_fits ds s.short)), (⊎_elim (λ h. omega arith) (λ h. omega arith), (bad, ((λ h. h inverse), tt))))))))).0

  -- and then it has done the string
  pub together : r.refusal ≡ 0 → Done m g i ds r
  together e =
      let s = accepted w l t z in
      let ws = take a.words words in
      let words_are = written_words w l t z in
      let (one, few) = pair_sized s.pair in
      let F : Faithful l one few ds = faithful l one few ds s.sound in
      record {
        power_is = p.power_is ∙ granted_all r.refusal (power m g i (tape_value ws)) e ∙ ap (power m g i) (ap tape_value words_are ∙ F.value_is);
        doublings_are = p.doublings_are ∙ granted_all r.refusal (doublings ws) e ∙ ap doublings words_are ∙ F.doublings_are;
        additions_are = p.additions_are ∙ granted_all r.refusal (additions ws) e ∙ ap additions words_are ∙ F.additions_are;
      }

  -- so a string worth the scalar N gives the base to the N
  pub together_scalar : (N : ℕ) → worth ds ≡ pos N → r.refusal ≡ 0 → r.residue ≡ g ^ N % m
  unfolding power
  together_scalar N v e = (together e).power_is ∙ ap (power m g i) v

-- A word of a tape for the second chip: whether it negates, and what it is on this chip. Assumes nothing.
use mathlib.Core.Path.{◌≡◌, refl, sym, ap, ◌∙◌, subst}
use mathlib.Core.Logic.{◌≢◌, ◌⊎◌, inl, inr, ⊎_elim}
use mathlib.Core.Bool.{true, false}
use Prim.Native.Nat.{ℕ, ◌+◌, ◌-◌}
use native.Mathlib.Omega.{arith}
use Rattle.laws.specs.Deciding.{Decides}
use Rattle.laws.proofs.Choices.{denies}
use Rattle.meaning.specs.Words.{code_of, entry_of, signed, plus, minus, Step, double, load, add, bad, step_of, word_of}
use Rattle.meaning.specs.Walks.{Good}
use Rattle.meaning.specs.SecondChip.{turned, translated}
use Rattle.tape.specs.declared.Sign.TheVariants.{Plus, Minus}
use Rattle.tape.specs.declared.Move.{Move}
use Rattle.tape.specs.declared.Step as Steps
use Rattle.tape.specs.declared.Step.TheVariants.{Double, Load, Add, Bad}
use Rattle.tape.specs.Steps.{side, told}
use Rattle.walk.proofs.Words.{Says, step_says, back_word}
use Rattle.run.proofs.Words.{says}
use Rattle.second.specs.Words.{Negates}

-- ---- a word's code
-- as the code tests it, by its step
module _ (x : ℕ) {s : Steps.Step} (is : told s ≡ step_of x) where
  pub negates_minus : (m : Move) → m.sign ≡ Minus → (s ≡ Load m) ⊎ (s ≡ Add m) → Decides true (Negates x)
  negates_minus m sign e = record { yes = λ t. ⊎_elim load add e; no = λ f. absurd (cc) }
    where
      load : s ≡ Load m → Negates x
      load e = inl ((says x is e).0 ∙ ap (λ g. signed (side g) 1) sign)

      add : s ≡ Add m → Negates x
      add e = inr ((says x is e).0 ∙ ap (λ g. signed (side g) 3) sign)

  pub negates_plus : (m : Move) → m.sign ≡ Plus → (s ≡ Load m) ⊎ (s ≡ Add m) → Decides false (Negates x)
  negates_plus m sign e = denies (⊎_elim (λ n. other (λ c. omega arith) (λ c. omega arith)) (λ n. other (λ c. omega arith) (λ c. omega arith)))
    where
      other : {P : Type 0} → (code_of x ≡ 1 → P) → (code_of x ≡ 3 → P) → P
      other f g =
          ⊎_elim (λ (l : s ≡ Load m). f ((says x is l).0 ∙ ap (λ g. signed (side g) 1) sign)) (λ (l : s ≡ Add m). g ((says x is l).0 ∙ ap (λ g. signed (side g) 3) sign)) e

-- a double and a bad word negate nothing
pub negates_none : (x : ℕ) (s : Steps.Step) → told s ≡ step_of x → ((m : Move) → s ≡ Load m → ⊥) → ((m : Move) → s ≡ Add m → ⊥) → Decides false (Negates x)
negates_none x Double is l a = denies (let code : Says double (code_of x) (entry_of x) = says x {s = Double} is refl in ⊎_elim (λ n. omega arith) (λ n. omega arith))
negates_none x (Load m) is l a = absurd (l m refl)
negates_none x (Add m) is l a = absurd (a m refl)
negates_none x Bad is l a = denies (let code : Says bad (code_of x) (entry_of x) = says x {s = Bad} is refl in ⊎_elim (λ n. ⊎_elim (λ h. omega arith) (λ h. omega arith) code) (λ n. ⊎_elim (λ h. omega arith) (λ h. omega arith) code))

-- ---- a word translated
-- a good word is not bad
pub good_step : (count i x : ℕ) → Good count i x → step_of x ≢ bad
good_step count i x g e = go (subst (λ t. Says t (code_of x) (entry_of x)) e (step_says x))
  where
    go : Says bad (code_of x) (entry_of x) → ⊥
    go (inl l) = omega (arith, g.code)
    go (inr (c, l)) = omega (arith, g.double c)

module _ (count x : ℕ) where
  -- what negates has the code before, and the entry further on
  pub turned_minus : Negates x → x - 4096 + count ≡ translated count x
  turned_minus c = go (step_of x) (step_says x) c
    where
      go : (t : Step) → Says t (code_of x) (entry_of x) → Negates x → x - 4096 + count ≡ word_of (turned count t)
      go double (a, e) c = absurd (⊎_elim (λ h. omega arith) (λ h. omega arith) c)
      go (load plus e) (a, _) c = absurd (⊎_elim (λ h. omega arith) (λ h. omega arith) c)
      go (load minus e) (a, p) c = omega arith
      go (add plus e) (a, _) c = absurd (⊎_elim (λ h. omega arith) (λ h. omega arith) c)
      go (add minus e) (a, p) c = omega arith
      go bad (inl l) c = absurd (⊎_elim (λ h. omega arith) (λ h. omega arith) c)
      go bad (inr (a, _)) c = absurd (⊎_elim (λ h. omega arith) (λ h. omega arith) c)

  -- another word stands
  pub turned_plus : (Negates x → ⊥) → step_of x ≢ bad → x ≡ translated count x
  turned_plus none n = sym (back_word x n).1 ∙ go (step_of x) (step_says x) n
    where
      go : (t : Step) → Says t (code_of x) (entry_of x) → t ≢ bad → word_of t ≡ word_of (turned count t)
      go double s n = refl
      go (load plus e) s n = refl
      go (load minus e) (c, _) n = absurd (none (inl c))
      go (add plus e) s n = refl
      go (add minus e) (c, _) n = absurd (none (inr c))
      go bad s n = absurd (n refl)

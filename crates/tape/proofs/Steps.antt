-- The move of a digit, and the words that it gives. Assumes nothing.
use mathlib.Core.Path.{◌≡◌, refl, sym, ap, ◌∙◌}
use mathlib.Core.Logic.{◌≢◌}
use mathlib.Core.List.{[], ◌∷◌}
use Prim.Native.Nat.{ℕ, zero, suc, ◌+◌, ◌*◌, ◌/◌, ◌<◌, ◌≤◌}
use native.Mathlib.Omega.{arith}
use Rattle.std.proofs.lemmas.Int.{ints}
use lib.IntN.{ℤ, pos, negsuc, ◌+ℤ◌}
use Rattle.meaning.specs.Words.{load, add, word_of}
use Rattle.meaning.specs.Taping.{entry, sign_of, moves}
use Rattle.walk.proofs.Tapes.{moves_some}
use Rattle.tape.specs.declared.Move.{Move}
use Rattle.tape.specs.declared.Step.TheVariants.{Load}
use Rattle.tape.specs.Steps.{side, told, Moves}

-- ---- its load
module _ {d : ℤ} {m : Move} (M : Moves d m) where
  pub load_is : d ≢ pos 0 → moves load d ≡ word_of (told (Load m)) ∷ []
  load_is n = moves_some load d n ∙ ap (λ s. word_of (load s (entry d)) ∷ []) (sym M.sign_is) ∙ ap (λ e. word_of (load (side m.sign) e) ∷ []) (sym M.entry_is)

-- ---- the addition of a digit, as code finds its double from the digit raised by 128
module _ (d : ℤ) (r t : ℕ) (up : pos r ≡ (d +ℤ pos 128)) (less : r < 128 → t + r ≡ 2 * (4 * 4096) + 127) (more : 128 ≤ r → t + 129 ≡ 2 * (3 * 4096) + r) where
  word_is : (e : ℤ) → e ≡ d → e ≢ pos 0 → word_of (add (sign_of e) (entry e)) ≡ t / 2
  word_is (pos zero) p n = absurd (n refl)
  word_is (pos (suc m)) p n = omega (arith, ints)
  word_is (negsuc m) p n = omega (arith, ints)

  pub added_is : d ≢ pos 0 → moves add d ≡ t / 2 ∷ []
  added_is n = moves_some add d n ∙ ap (λ x. x ∷ []) (word_is d refl n)

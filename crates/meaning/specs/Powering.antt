-- The run of a tape over powers modulo m: the odd powers of base and inverse, the power reached and the steps reported.
-- Assumes nothing.
use Rattle.std.specs.Prelude.{◌≡◌, ◌≢◌, ◌⊎◌, List, [], ◌∷◌, ◌++◌, ℕ, suc, ◌*◌, ◌%◌, ◌^◌, ◌<◌, ℤ, pos, negsuc, length, drop}
use Rattle.meaning.specs.Digits.{entries, listed}
use Rattle.meaning.specs.Refusals.{Rule, plain, lowest, First, granted, kept, set_rules}
use Rattle.meaning.specs.Words.{most_words}
use Rattle.meaning.specs.Walks.{multiple, tape_value, doublings, additions}
use Rattle.meaning.specs.Multiples.{cost_of}
use Rattle.meaning.specs.Running.{BadWord, Ran}

-- those of the run over residues, but 14 for either buffer; then 17: the product of base and inverse is not 1 modulo m
abbrev pub power_rules : (w l : ℕ) (ws : List ℕ) (m g i room room' : ℕ) → List Rule
power_rules w l ws m g i room room' =
    set_rules w l
    ++ (plain 12 (m ≡ 0)
    ∷ plain 13 (most_words < length ws)
    ∷ plain 14 ((room < entries l) ⊎ (room' < entries l))
    ∷ lowest 15 (BadWord (entries l) ws)
    ∷ plain 17 (g * i % m ≢ 1 % m)
    ∷ [])

-- the base to the power z, or for a negative z the inverse to the positive power
unfoldable pub power : (m g i : ℕ) → ℤ → ℕ
power m g i (pos n) = g ^ n % m
power m g i (negsuc n) = i ^ suc n % m

-- so many odd powers g ^ (2 e + 1) mod m
unfoldable pub powers_of : (count m g : ℕ) → List ℕ
powers_of count m g = listed (λ e. g ^ multiple e % m) 0 count

-- what the call answers, and the two buffers afterwards; squarings are reported as doublings and multiplications as additions, and both sets of odd powers cost together
-- twice what so many multiples do
pub record Powers (w l : ℕ) (ws : List ℕ) (m g i : ℕ) (powers₀ inverses₀ : List ℕ) (a : Ran) (powers inverses : List ℕ) : Type 0 where
  pub first : First (power_rules w l ws m g i (length powers₀) (length inverses₀)) a.refusal a.place
  pub power_is : a.residue ≡ granted a.refusal (power m g i (tape_value ws))
  pub doublings_are : a.doublings ≡ granted a.refusal (doublings ws)
  pub additions_are : a.additions ≡ granted a.refusal (additions ws)
  pub cost_doublings_are : a.cost.doublings ≡ granted a.refusal (2 * (cost_of (entries l)).doublings)
  pub cost_additions_are : a.cost.additions ≡ granted a.refusal (2 * (cost_of (entries l)).additions)
  pub powers_are : powers ≡ kept a.refusal (powers_of (entries l) m g ++ drop (entries l) powers₀) powers₀
  pub inverses_are : inverses ≡ kept a.refusal (powers_of (entries l) m i ++ drop (entries l) inverses₀) inverses₀

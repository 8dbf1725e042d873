-- Form 2 in a set of width w and largest digit m: at an odd remaining number the signed residue modulo 2 ^ (w + 1) if its size is at most m, else the one modulo 2 ^ w.
-- That there is one string, and one only, is a theorem; so is that it is wNAF in a whole set. Assumes nothing.
use Rattle.std.specs.Prelude.{◌≡◌, List, [], ◌∷◌, ℕ, ◌+◌, ◌*◌, ◌^◌, ◌<◌, ◌≤◌, ℤ, pos, nat_abs, ◌+ℤ◌, ◌*ℤ◌, length}

-- r is the signed residue of R modulo 2 ^ k, strictly between - 2 ^ (k - 1) and 2 ^ (k - 1)
pub record SignedResidue (k : ℕ) (R r : ℤ) : Type 0 where
  pub quotient : ℤ
  pub is : R ≡ pos (2 ^ k) *ℤ quotient +ℤ r
  pub between : 2 * nat_abs r < 2 ^ k

-- d is the digit at an odd remaining number R
pub data DigitAt (w m : ℕ) (R d : ℤ) : Type 0 where
  small : SignedResidue (w + 1) R d → nat_abs d ≤ m → DigitAt w m R d
  large : (r : ℤ) → SignedResidue (w + 1) R r → m < nat_abs r → SignedResidue w R d → DigitAt w m R d

-- the string of R: at an even R the digit 0 and then the string of R / 2, at an odd R its digit and then the string of (R - digit) / 2; past the last place nothing remains
pub data ByResidues (w m : ℕ) : ℤ → List ℤ → Type 0 where
  done : {R : ℤ} → R ≡ pos 0 → ByResidues w m R []
  even : {R : ℤ} {ds : List ℤ} (X : ℤ) → R ≡ pos 2 *ℤ X → ByResidues w m X ds → ByResidues w m R (pos 0 ∷ ds)
  odd : {R d : ℤ} {ds : List ℤ} (h X : ℤ) → R ≡ pos 2 *ℤ h +ℤ pos 1 → DigitAt w m R d → R ≡ d +ℤ pos 2 *ℤ X → ByResidues w m X ds → ByResidues w m R (d ∷ ds)

-- ds is N in the set of w and m, on n + 1 places
pub record Fractional (w m N n : ℕ) (ds : List ℤ) : Type 0 where
  pub length_is : length ds ≡ n + 1
  pub by_residues : ByResidues w m (pos N) ds

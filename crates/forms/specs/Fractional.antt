-- Form 2 as code makes it: from the lowest place up, by the number that remains. Assumes nothing.
use Rattle.std.specs.Prelude.{◌≡◌, cond, List, [], ◌∷◌, ℕ, zero, suc, ◌+◌, ◌-◌, ◌*◌, ◌/◌, ◌%◌, ◌^◌, eqb, ltb, leb, ℤ, pos, ◌-ℤ◌}

-- one of three by a residue r modulo 2 ^ (w + 1): low up to m, high from 2 ^ (w + 1) - m on, middle between them
abbrev pub third : {A : Type 0} (w m r : ℕ) → A → A → A → A
third w m r low middle high = cond (leb r m) low (cond (ltb (r + m) (2 ^ (w + 1))) middle high)

-- the digit at a place where R remains: 0 if R is even, else its residue modulo 2 ^ (w + 1), in the middle less 2 ^ w, and high less 2 ^ (w + 1)
unfoldable pub fractional_digit : (w m R : ℕ) → ℤ
fractional_digit w m R =
    let r = R % 2 ^ (w + 1) in
    cond (eqb (R % 2) 0) (pos 0) (third w m r (pos r) (pos r -ℤ pos (2 ^ w)) (pos r -ℤ pos (2 ^ (w + 1))))

-- what remains at the next place: R less the digit, halved
unfoldable pub fractional_next : (w m R : ℕ) → ℕ
fractional_next w m R =
    let q = R / 2 ^ (w + 1) in
    cond (eqb (R % 2) 0) (R / 2) (third w m (R % 2 ^ (w + 1)) (q * 2 ^ w) ((2 * q + 1) * 2 ^ (w - 1)) ((q + 1) * 2 ^ w))

-- the digits of a number of places at which R remains
unfoldable pub fractional_from : (w m places R : ℕ) → List ℤ
fractional_from w m zero R = []
fractional_from w m (suc p) R = fractional_digit w m R ∷ fractional_from w m p (fractional_next w m R)

-- what remains of N at place i with a carry, where the next `skip` digits are 0
abbrev pub remaining : (N i carry skip : ℕ) → ℕ
remaining N i carry skip = (N / 2 ^ (i + skip) + carry) * 2 ^ skip

-- a turn at place i, where R remains of N: its digit z, and the carry and the skip with which what remains is told at the next place
pub record Turn (w m N i R carry skip : ℕ) (z : ℤ) : Type 0 where
  pub digit : z ≡ fractional_digit w m R
  pub next : remaining N (i + 1) carry skip ≡ fractional_next w m R

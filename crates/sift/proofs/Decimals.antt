-- Numbers in decimal: what std prints of a number is the number's decimal characters. Assumes nothing.
use Rattle.std.proofs.Common.{◌≡◌, refl, sym, ap, ◌∙◌, [], ◌∷◌, ◌++◌, append_assoc, append-nil, List, ℕ, zero, suc, ◌+◌, ◌/◌, ◌%◌, ◌^◌, ◌<◌, ◌≤◌, false, arith}
use Rattle.std.specs.Fmt.{digits, digits_onto}
use native.Mathlib.Decide.{dec_le}
use native.Mathlib.Nat.{pow-suc}
use borrow.Author.Tests.{lt-ltb, le-ltb, eq-eqb, ne_eqb}
use Rattle.meaning.specs.Salvage.{numeral, decimal}

one : (fuel n : ℕ) → n < 10 → numeral fuel n ≡ (48 + n) ∷ []
unfolding numeral
one zero n h = refl
one (suc fuel) n h = rw (lt-ltb n 10 h)

more : (fuel n : ℕ) → 10 ≤ n → numeral (suc fuel) n ≡ numeral fuel (n / 10) ++ ((48 + n % 10) ∷ [])
unfolding numeral
more fuel n h = rw (le-ltb n 10 h)

-- a digit, and then what follows it
digit : (k n : ℕ) (cs : List ℕ) → n < 10 → digits_onto (suc k) 10 false n cs ≡ (48 + n) ∷ cs
digit k n cs h =
    let none : n / 10 ≡ 0 = omega arith in
    let same : n % 10 ≡ n = omega arith in
    rw (eq-eqb (n / 10) 0 none, same, lt-ltb n 10 h)

step : (k n : ℕ) (cs : List ℕ) → 10 ≤ n → digits_onto (suc k) 10 false n cs ≡ digits_onto k 10 false (n / 10) ((48 + n % 10) ∷ cs)
step k n cs h =
    let some : n / 10 ≡ 0 → ⊥ = λ e. omega arith in
    let low : n % 10 < 10 = omega arith in
    rw (ne_eqb (n / 10) 0 some, lt-ltb (n % 10) 10 low)

short : (k fuel n : ℕ) (cs : List ℕ) → n < 10 → digits_onto (suc k) 10 false n cs ≡ numeral fuel n ++ cs
short k fuel n cs h = digit k n cs h ∙ rw (one fuel n h) refl

printed_in : (k fuel n : ℕ) (cs : List ℕ) → n < 10 ^ suc k → n ≤ fuel → digits_onto (suc k) 10 false n cs ≡ numeral fuel n ++ cs
printed_in zero fuel n cs b f = short zero fuel n cs (omega arith)
printed_in (suc k) zero n cs b f = short (suc k) zero n cs (omega arith)
printed_in (suc k) (suc fuel) n cs b f = go (dec_le 10 n) (printed_in k fuel (n / 10) ((48 + n % 10) ∷ cs))
  where
    go : Dec (10 ≤ n) → (n / 10 < 10 ^ suc k → n / 10 ≤ fuel → digits_onto (suc k) 10 false (n / 10) ((48 + n % 10) ∷ cs) ≡ numeral fuel (n / 10) ++ ((48 + n % 10) ∷ cs))
        → digits_onto (suc (suc k)) 10 false n cs ≡ numeral (suc fuel) n ++ cs
    go (no h) i = short (suc k) (suc fuel) n cs (omega arith)
    go (yes h) i =
        step (suc k) n cs h
        ∙ i (omega (arith, pow-suc 10 (suc k))) (omega arith)
        ∙ sym (ap (λ l. l ++ cs) (more fuel n h) ∙ append_assoc (numeral fuel (n / 10)) ((48 + n % 10) ∷ []) cs)

pub printed : (n : ℕ) → n < 2 ^ 64 → digits 10 false n ≡ decimal n
unfolding digits
printed n h = printed_in 63 n n [] (omega arith) (omega arith) ∙ append-nil (decimal n)

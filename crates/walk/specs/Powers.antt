-- Products modulo m as a carrier, with the table of the odd powers of base and inverse.
-- Assumes nothing.
use Rattle.std.specs.Prelude.{ℕ, ◌*◌, ◌%◌, ◌^◌}
use Rattle.meaning.specs.Walks.{Carrier, Table, by_sign, multiple}

-- a double squares, an addition multiplies
abbrev pub products : ℕ → Carrier ℕ
products m = record { none = 1 % m; dbl = λ a. a * a % m; add = λ a b. a * b % m }

-- the entries g ^ (2 e + 1) mod m, and for the negated ones the powers of the inverse i
abbrev pub odd_powers : (m g i : ℕ) → Table ℕ
odd_powers m g i = by_sign (λ e. g ^ multiple e % m) (λ e. i ^ multiple e % m)

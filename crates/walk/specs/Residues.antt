-- Residues modulo m as a carrier, with tables of stored entries.
-- Assumes nothing.
use Rattle.std.specs.Prelude.{ℕ, ◌+◌, ◌*◌, ◌-◌, ◌%◌}
use Rattle.meaning.specs.Walks.{Carrier, Table, by_sign, multiple}
use Rattle.meaning.specs.JointRunning.{joint_entry}

abbrev pub residues : ℕ → Carrier ℕ
residues m = record { none = 0; dbl = λ a. (a + a) % m; add = λ a b. (a + b) % m }

-- a residue is negated by what it lacks of m
abbrev pub negatable : (m : ℕ) → (ℕ → ℕ) → Table ℕ
negatable m stored = by_sign stored (λ e. (m - stored e) % m)

-- the entries (2 e + 1) · g mod m
abbrev pub multiples : (m g : ℕ) → Table ℕ
multiples m g = negatable m (λ e. multiple e * g % m)

-- the entries g, h, g + h and g - h mod m
abbrev pub joint_entries : (m g h : ℕ) → Table ℕ
joint_entries m g h = negatable m (joint_entry m g h)

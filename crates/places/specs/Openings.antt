-- Places of a buffer that hold zeros still, and the places of a stretch of the scalar where a window opens. Assumes nothing.
use Rattle.std.specs.Prelude.{◌≡◌, List, ℕ, ◌+◌, ◌*◌, ◌/◌, ◌%◌, ◌^◌, ◌<◌, ◌≤◌, ℤ, pos, get_or}
use Rattle.std.specs.Int.Bits.{bit_xor}

-- the places that are left hold zeros
abbrev pub Clear : ℕ → List ℤ → Type 0
Clear m ds = (j : ℕ) → j < m → get_or ds j (pos 0) ≡ pos 0

-- the bits of the first `count` places of stretch x that differ from the bit under them, `tail` places higher up. The lowest place has tail + 1 bits under it
abbrev pub openings : (tail x count : ℕ) → ℕ
openings tail x count = (bit_xor x (x / 2) / 2 ^ tail % 2 ^ count) * 2 ^ tail

-- place r is the highest of them
pub record Highest (tail opens r : ℕ) : Type 0 where
  pub set : 2 ^ (r + tail) ≤ opens
  pub over : opens < 2 ^ (r + 1 + tail)
  pub few : r < 64

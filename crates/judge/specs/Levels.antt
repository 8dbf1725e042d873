-- A string and a number compared from the lowest places up, eight places with a byte at a time.
-- Assumes nothing.
use Rattle.std.specs.Prelude.{◌≡◌, ◌≢◌, List, ℕ, ◌+◌, ◌*◌, ◌/◌, ◌^◌, ◌<◌, ◌≤◌, ℤ, pos, ◌+ℤ◌, ◌*ℤ◌, drop}
use Rattle.meaning.specs.Digits.{worth}
use Rattle.judge.specs.declared.Turn.{Turn}

-- how far digits and carries are kept above what they are
abbrev pub level : ℕ
level = 256

-- r is d raised by a level; d is a signed byte, from -128 to 127
pub record Raised (level : ℕ) (d : ℤ) (r : ℕ) : Type 0 where
  pub is : pos r ≡ d +ℤ pos level
  pub least : level ≤ r + 128
  pub most : r < level + 128

-- r is what the m places from place i up are worth by themselves, each digit raised: that adds level · (2 ^ m - 1)
pub record Stretch (ds : List ℤ) (i m r : ℕ) : Type 0 where
  pub is : worth (drop i ds) +ℤ pos (level * 2 ^ m) ≡ pos (r + level) +ℤ pos (2 ^ m) *ℤ worth (drop (i + m) ds)
  pub least : 128 * 2 ^ m ≤ r + 128
  pub most : r + 383 ≤ 383 * 2 ^ m

-- the places from place i up, with the carry to them, are worth the bits from there up
abbrev pub Level : (N : ℕ) (ds : List ℤ) (i carry : ℕ) → Type 0
Level N ds i carry = worth (drop i ds) +ℤ pos carry ≡ pos (N / 2 ^ i + level)

-- the eight places from 8 q up are compared: where something is left the two are not worth the same, else they are exactly when they are from the next eight up
pub record Turned (N : ℕ) (ds : List ℤ) (q carry : ℕ) (t : Turn) : Type 0 where
  pub small : t.carry ≤ 512
  pub differs : t.left ≢ 0 → Level N ds (8 * q) carry → ⊥
  pub there : t.left ≡ 0 → Level N ds (8 * q) carry → Level N ds (8 * (q + 1)) t.carry
  pub back : t.left ≡ 0 → Level N ds (8 * (q + 1)) t.carry → Level N ds (8 * q) carry

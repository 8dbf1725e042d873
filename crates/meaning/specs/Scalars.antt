-- Scalars: bytes in one of two orders, the number that they mean, and its bits. Nothing below but `number` knows the order of the bytes.
-- Assumes nothing.
use Rattle.std.specs.Prelude.{List, [], ◌∷◌, ℕ, zero, suc, ◌+◌, ◌*◌, ◌/◌, ◌%◌, ◌^◌, length}

-- which end of the number the bytes begin with
pub data Order : Type 0 where
  highest_first : Order
  lowest_first : Order

-- the number that the bytes mean in an order
unfoldable pub number : Order → List ℕ → ℕ
number highest_first [] = 0
number highest_first (b ∷ bs) = b * 2 ^ (8 * length bs) + number highest_first bs
number lowest_first [] = 0
number lowest_first (b ∷ bs) = b + 256 * number lowest_first bs

-- an order as a byte, and the order that a byte tells: 0 highest first, anything else lowest first
abbrev pub code_of : Order → ℕ
code_of highest_first = 0
code_of lowest_first = 1

unfoldable pub order_of : ℕ → Order
order_of zero = highest_first
order_of (suc b) = lowest_first

-- with L bytes, n = 8 L bits
abbrev pub bit_count : List ℕ → ℕ
bit_count s = 8 * length s

-- d_j, bit j of the number N: 0 for every j above its bits
abbrev pub bit : ℕ → ℕ → ℕ
bit N j = N / 2 ^ j % 2

-- d_(j-1), the bit under place j: bit j of 2 N, so 0 under place 0
abbrev pub below : ℕ → ℕ → ℕ
below N j = 2 * N / 2 ^ j % 2

-- a scalar has 0 to 66 bytes
abbrev pub most_bytes : ℕ
most_bytes = 66

-- Digit sets between two widths: a set has a width w, by which digits stand apart, and a largest digit m, by which it has its digits and its entries. D_w is the set
-- of w and `largest w`. Assumes nothing.
use Rattle.std.specs.Prelude.{◌≡◌, ℕ, ◌-◌, ◌%◌, ◌^◌, ◌<◌, ◌≤◌}
use Rattle.meaning.specs.Digits.{least_width, most_width, largest}

-- m is odd, from 2 ^ (w - 1) - 1, the largest digit of D_w, to 2 ^ w - 1, the largest of D_(w+1)
pub record Between (w m : ℕ) : Type 0 where
  pub wide : least_width ≤ w
  pub odd : m % 2 ≡ 1
  pub least : largest w ≤ m
  pub most : m ≤ 2 ^ w - 1

-- as calls take it: w is a width, and not the largest where m is above 2 ^ (w - 1) - 1
pub record Pair (w m : ℕ) : Type 0 where
  pub between : Between w m
  pub most : w ≤ most_width
  pub above : largest w < m → w < most_width

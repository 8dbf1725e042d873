-- Which numbers are widths, which records of a width and a largest digit are lawful, and what a raw byte is as one.
-- Assumes nothing.
use Rattle.std.specs.Prelude.{◌≡◌, ◌⊎◌, cond, ◌&&◌, ℕ, ◌<◌, ◌≤◌, leb, Option, Some, None, Result, Ok, Err}
use Rattle.meaning.specs.Digits.{least_width, most_width, largest}
use Rattle.meaning.specs.Sets.{Pair}
use Rattle.width.specs.declared.Width.{Width}
use Rattle.width.specs.declared.DigitSet.{DigitSet}
use Rattle.refusals.specs.declared.Reason.{Reason}
use Rattle.refusals.specs.Coded.{coded}

-- a width: from the smallest to the largest
abbrev pub Wide : ℕ → Type 0
Wide w = (least_width ≤ w) × (w ≤ most_width)

-- a whole width: its largest digit is that of D_w
abbrev pub Whole : Width → Type 0
Whole w = Wide w.bits × (w.largest ≡ largest w.bits)

-- a width with its largest digit
abbrev pub Lawful : Width → Type 0
Lawful w = Pair w.bits w.largest

-- the set of a whole width, where there is one
pub record Entire (w : ℕ) (s : DigitSet) : Type 0 where
  pub width_is : s.width ≡ w
  pub largest_is : Wide w → s.largest ≡ largest w

-- the limits of a type are these
pub record Limits (least most from to : ℕ) : Type 0 where
  pub from_is : from ≡ least
  pub to_is : to ≡ most

-- the width that a byte is, with the largest digit of the whole width, or none
abbrev pub Known : ℕ → Option Width → Type 0
Known byte (Some x) = (x.bits ≡ byte) × (x.largest ≡ largest byte) × Wide byte
Known byte None = (byte < least_width) ⊎ (most_width < byte)

-- the width that a width and a largest digit make, or none
abbrev pub Reaches : (w m : ℕ) → Option Width → Type 0
Reaches w m (Some x) = (x.bits ≡ w) × (x.largest ≡ m) × Pair w m
Reaches w m None = Pair w m → ⊥

-- the number that two bytes are refused for, where they make no set: 22 for the largest digit where the first is a width, else 2
unfoldable pub fault_of : ℕ → ℕ
fault_of w = cond (leb least_width w && leb w most_width) 22 2

-- the width of a set, or what two bytes that make none are refused for
abbrev pub Tried : (w m : ℕ) → Result Width Reason → Type 0
Tried w m (Ok x) = (x.bits ≡ w) × (x.largest ≡ m) × Pair w m
Tried w m (Err reason) = (Pair w m → ⊥) × (coded reason ≡ fault_of w)

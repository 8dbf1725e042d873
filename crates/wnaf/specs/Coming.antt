-- What the iterator over the digits has left. Assumes nothing.
use Rattle.std.specs.Prelude.{List, ℕ, ◌+◌, ℤ}
use Rattle.meaning.specs.Scalars.{number, bit_count}
use Rattle.scalar.specs.Orders.{ordered}
use Rattle.wnaf.specs.Stretches.{coming}
use Rattle.wnaf.specs.declared.Digits.{Digits}

abbrev pub digits_left : Digits → List (ℕ × ℤ)
digits_left d = coming d.set.w.bits d.set.largest (bit_count d.s.now + 1) (number (ordered d.order) d.s.now) d.place d.carry 0

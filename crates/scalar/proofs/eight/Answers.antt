-- The eight bytes as they stand, the highest or the lowest first.
use Rattle.std.proofs.Common.{◌+◌, ◌-◌, length, arith}
use Rattle.meaning.specs.Scalars.{highest_first, lowest_first}
use Rattle.scalar.proofs.Bytes.{eight_of}
use Rattle.scalar.proofs.eight.Goals as goal

pub returns-in-HighestFirst : goal.returns-in-HighestFirst
returns-in-HighestFirst c =
    let a = c.args in
    let at = length a.s.now - 8 - a.q in
    rw c.in-HighestFirst.is
    (omega (
      arith,
      c.from_be_bytes.ensures,
      eight_of highest_first a.s.now (λ i. (c.type_inv.s i).fits) a.q (omega arith) at (at + 1) (at + 2) (at + 3) (at + 4) (at + 5) (at + 6) (at + 7)
          (omega arith) (omega arith) (omega arith) (omega arith) (omega arith) (omega arith) (omega arith) (omega arith),
    ))

pub returns-in-LowestFirst : goal.returns-in-LowestFirst
returns-in-LowestFirst c =
    let a = c.args in
    let q = a.q in
    rw c.in-LowestFirst.is
    (omega (
      arith,
      c.from_le_bytes.ensures,
      eight_of lowest_first a.s.now (λ i. (c.type_inv.s i).fits) q (omega arith) (q + 7) (q + 6) (q + 5) (q + 4) (q + 3) (q + 2) (q + 1) q
          (omega arith) (omega arith) (omega arith) (omega arith) (omega arith) (omega arith) (omega arith) (omega arith),
    ))

-- The bits are cut off by their power of two.
use Rattle.std.proofs.Common.{◌≡◌, ◌∙◌, ◌*◌, ◌%◌, ◌^◌, arith}
use native.Mathlib.Nat.{one-mul}
use lib.Dec.{lit<}
use lib.Pow.{shl_exact}
use Rattle.meaning.specs.Scalars.{number}
use Rattle.scalar.specs.Orders.{ordered}
use Rattle.scalar.proofs.Fields.{field_is}
use Rattle.scalar.proofs.field.Goals as goal

pub returns : goal.returns
returns c =
    let a = c.args in
    let power : 1 * 2 ^ a.count % 2 ^ 32 ≡ 2 ^ a.count = shl_exact 1 a.count 32 (lit< tt) (omega arith) ∙ one-mul (2 ^ a.count) in
    rw (power, c.pair.ensures) (field_is (number (ordered a.order) a.s.now) a.i a.count c.requires)

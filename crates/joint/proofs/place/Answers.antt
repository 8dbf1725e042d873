-- A digit's level is at most what the low bit and the carry leave; and the place by its bits and carries.
use Rattle.std.proofs.Common.{◌∙◌, ◌+◌, ◌%◌, arith}
use borrow.Author.Rules.{sfits_of}
use mir.Syntax.{w8}
use mir.Facts.{to_z-of_z}
use Rattle.joint.specs.Places.{first_of, second_of}
use Rattle.joint.proofs.Turns.{level_le, placed}
use Rattle.joint.proofs.place.Goals as goal

pub overflow_sub-result : goal.overflow_sub-result
overflow_sub-result c =
    omega (arith, c.level-p.ensures, level_le c.field-x.result c.args.carry ((c.field-y.result + c.args.other) % 8) (omega arith))

pub overflow_sub-result-2 : goal.overflow_sub-result-2
overflow_sub-result-2 c =
    omega (arith, c.level-q.ensures, level_le c.field-y.result c.args.other ((c.field-x.result + c.args.carry) % 8) (omega arith))

pub returns : goal.returns
returns c =
    let a = c.args in
    placed (first_of a.scalars) (second_of a.scalars) a.i a.carry a.other c.field-x.result c.field-y.result c.level-p.result c.level-q.result _ _
    c.requires.0 c.requires.1 c.field-x.ensures c.field-y.ensures c.level-p.ensures c.level-q.ensures
    (to_z-of_z {w = w8} (sfits_of c.digit.type_inv) ∙ c.digit.ensures) (to_z-of_z {w = w8} (sfits_of c.digit-2.type_inv) ∙ c.digit-2.ensures)

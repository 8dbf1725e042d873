-- The digit of the sides is read from the constant.
use Rattle.std.proofs.Common.{◌∙◌, ap}
use mir.Facts.{to_z-of_z}
use Rattle.joint.specs.Places.{side_of}
use Rattle.joint.proofs.Turns.{column_by}
use Rattle.joint.proofs.column.Goals as goal

pub returns : goal.returns
returns c = column_by c.args.first c.args.second (c.side.ensures ∙ ap side_of (to_z-of_z c.ranges.first)) (c.side-2.ensures ∙ ap side_of (to_z-of_z c.ranges.second))

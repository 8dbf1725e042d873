-- Taken off where nothing stands over it, the highest leaves what lies under it.
use Rattle.std.proofs.Common.{◌-◌, ap, ◌∙◌, arith}
use Rattle.laws.proofs.Shifts.{one_shifted}
use Rattle.places.proofs.Openings.{highest_off}
use Rattle.places.proofs.opened.others.Goals as goal

pub returns : goal.returns
returns c = ap (λ t. c.args.opens - t) (one_shifted c.args.at 64 (omega arith)) ∙ (highest_off c.args.opens c.args.at c.requires).1

-- The highest set bit is found by the zeros over it.
use Rattle.std.proofs.Common.{◌-◌, ◌≤◌, refl, arith}
use lib.Count.{count_leading_zeros}
use Rattle.places.specs.Openings.{Highest}
use Rattle.places.proofs.Openings.{highest_is}
use Rattle.places.proofs.opened.highest.Goals as goal

found : (c : goal.Start) → let z = count_leading_zeros 64 c.args.opens in (z ≤ 63) × (c.args.tail ≤ 63 - z) × Highest c.args.tail c.args.opens (63 - z - c.args.tail)
found c = highest_is c.args.tail c.args.opens (count_leading_zeros 64 c.args.opens) (omega arith) c.requires refl

pub overflow_cast-result : goal.overflow_cast-result
overflow_cast-result c = omega (arith, (found c).1)

pub overflow_sub-result-2 : goal.overflow_sub-result-2
overflow_sub-result-2 c = (found c).1

pub returns : goal.returns
returns c = (found c).2

-- The columns passed are counted, and what remains makes up the rest of the form.
use Rattle.joint.specs.Places.{first_of, second_of, bits_of}
use Rattle.joint.specs.Places.{columns_in}
use Rattle.joint.proofs.Counting.{Tallied}
use Rattle.joint.proofs.Standing.{Standing}
use Rattle.joint.proofs.weigh.Given as goal

abbrev pub invariant-loop-i : goal.invariant-loop-i
invariant-loop-i l =
    Tallied (columns_in (first_of l.scalars) (second_of l.scalars) (bits_of l.scalars)) l.count l.i
    × Standing (first_of l.scalars) (second_of l.scalars) (bits_of l.scalars) l.i l.carry l.other

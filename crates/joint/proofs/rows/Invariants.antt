-- Both rows are written up to place i, and what remains makes up the rest of the form.
use Rattle.std.proofs.Common.{suc}
use Rattle.joint.specs.Places.{first_of, second_of, bits_of}
use Rattle.pairs.specs.Columns.{fst, snd, row, jsf_n}
use Rattle.laws.proofs.Stores.{Filled}
use Rattle.joint.proofs.Standing.{Standing}
use Rattle.joint.proofs.rows.Given as goal

abbrev pub invariant-loop-i : goal.invariant-loop-i
invariant-loop-i l =
    Filled (row fst (jsf_n (suc (bits_of l.scalars)) (first_of l.scalars) (second_of l.scalars))) l.initial.first l.first l.i
    × Filled (row snd (jsf_n (suc (bits_of l.scalars)) (first_of l.scalars) (second_of l.scalars))) l.initial.second l.second l.i
    × Standing (first_of l.scalars) (second_of l.scalars) (bits_of l.scalars) l.i l.carry l.other

-- The width of the set, or what is refused.
use Rattle.width.proofs.Widths.{outside_none, outside_fault, tried_set}
use Rattle.width.proofs.DigitSet.tried.Goals as goal

pub returns-in_default : goal.returns-in_default
returns-in_default c = let outside = c.in_default.ensures in (outside_none _ outside, outside_fault outside)

pub returns : goal.returns
returns c =
    let (bits, _, wide) = c.in-Some.ensures in
    rw c.ok_or.ensures.value (tried_set _ _ c.reaching.result wide (rw bits at c.reaching.ensures))

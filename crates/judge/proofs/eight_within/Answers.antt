-- The part that is lent has the eight places.
use Rattle.std.proofs.Common.{◌≡◌, ◌+◌, ◌-◌, take, drop, subst, arith}
use Rattle.judge.specs.Levels.{Stretch}
use Rattle.judge.proofs.Levels.{stretch_part}
use Rattle.judge.proofs.eight_within.Goals as goal

pub returns : goal.returns
returns c =
    let a = c.args in
    let n : a.i + 8 - a.i ≡ 8 = omega arith in
    stretch_part a.digits.now a.i _ (subst (λ k. Stretch (take k (drop a.i a.digits.now)) 0 8 c.lowest_eight.result) n c.lowest_eight.ensures)

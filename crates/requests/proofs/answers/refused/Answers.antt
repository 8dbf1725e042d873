-- The line feed stands behind the refusal's characters.
use Rattle.std.proofs.Common.{arith, refl, []}
use Rattle.meaning.specs.Hexadecimal.{pair, written}
use Rattle.refusals.specs.Coded.{coded}
use Rattle.requests.proofs.Writing.{wrote}
use Rattle.requests.proofs.answers.refused.Goals as goal

pub returns : goal.returns
unfolding written
returns c =
    let a = c.args in
    rw (c.put.ensures, c.into.ensures) (wrote a.out.now (pair (coded a.reason) []) 2 refl (omega arith))

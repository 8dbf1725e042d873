-- The word of the digit's move, by its digit raised. Assumes nothing.
use Rattle.std.proofs.Common.{◌≡◌, ◌+◌, ◌*◌, ◌<◌, ◌≤◌, arith}
use Rattle.std.proofs.lemmas.Int.{ints}
use lib.IntN.{pos, ◌+ℤ◌}
use Rattle.tape.proofs.Steps.{added_is}
use Rattle.tape.proofs.added.Goals as goal
use Rattle.tape.proofs.added.Goals.{then-raised-lt128, else-raised-lt128}

pub returns : goal.returns
returns c =
    let r = c.cast_unsigned-raised.result in
    let up : pos r ≡ (c.args.digit +ℤ pos 128) = omega (arith, ints) in
    let t = c.if-raised-lt128.twice in
    let minus : r < 128 → t + r ≡ 2 * (4 * 4096) + 127 =
    λ h. elim c.if-raised-lt128.branch [ then-raised-lt128 w ↦ omega arith | else-raised-lt128 w ↦ omega arith ] in
    let plus : 128 ≤ r → t + 129 ≡ 2 * (3 * 4096) + r =
    λ h. elim c.if-raised-lt128.branch [ then-raised-lt128 w ↦ omega arith | else-raised-lt128 w ↦ omega arith ] in
    added_is c.args.digit r t up minus plus

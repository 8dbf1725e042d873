-- The text stands at its place. Assumes nothing.
use Rattle.std.proofs.Common.{◌+◌, ◌-◌, arith, length}
use Rattle.sift.proofs.Puts.{puts_copy}
use Rattle.sift.proofs.remarks.put.Goals as goal

pub returns : goal.returns
returns c =
    let a = c.args in
    rw c.copy_from_slice.ensures.after (puts_copy a.text.now a.out.now a.at (a.at + length a.text.now - a.at) (omega arith) (omega arith))

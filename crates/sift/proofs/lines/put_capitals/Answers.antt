-- One character more is stored. Assumes nothing.
use Rattle.std.proofs.Common.{arith, add-one}
use Rattle.sift.proofs.Letters.{capitals_from, capitals_none}
use Rattle.sift.proofs.lines.put_capitals.Goals as goal

pub loop-i-preserved : goal.loop-i-preserved
loop-i-preserved c =
    let l = c.loop-i in
    let stored = rw (capitals_from c.args.line.now l.i (omega arith), add-one l.i) at l.invariant in
    rw (c.raised.ensures, add-one l.i) stored

pub returns : goal.returns
returns c = rw (capitals_none c.args.line.now c.loop-i.i (omega arith)) at c.loop-i.invariant

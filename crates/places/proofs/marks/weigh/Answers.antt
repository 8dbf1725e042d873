-- Each word has 64 ones at most.
use Rattle.std.proofs.Common.{◌≡◌, arith, rules}
use Rattle.places.specs.Ones.{ones_of}
use Rattle.places.proofs.Marking.{ones_most}
use Rattle.places.proofs.marks.weigh.Goals as goal

pub returns : goal.returns
returns c =
    let e : c.sum.result ≡ ones_of c.args.marks.now = search rules in
    (e, omega (arith, ones_most c.args.marks.now (λ i. (c.type_inv.marks i).fits)))

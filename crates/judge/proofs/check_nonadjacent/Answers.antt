-- The plain check's refusal stands, and an accepted string is looked at once more.
use Rattle.std.proofs.Common.{refl}
use Rattle.refusals.specs.declared.Reason.TheVariants.{NearDigits}
use Rattle.meaning.specs.Checking.{nonadjacent_rules}
use Rattle.scalar.specs.Orders.{ordered}
use Rattle.judge.proofs.Refusals.{refuses, until_10, plain_accepts}
use Rattle.judge.proofs.check_nonadjacent.Goals as goal

pub returns-in-Some : goal.returns-in-Some
returns-in-Some c =
    let a = c.args in
    refuses (nonadjacent_rules a.set.width a.set.largest (ordered a.order) a.scalar.now a.digits.now) tt a.digits.now 6 (record { reason = NearDigits; place = c.in-Some.place }) refl
    (until_10 a.set.width a.set.largest (ordered a.order) a.scalar.now a.digits.now c.in_ok-plain.plain c.in_ok-plain.ensures c.in-Some.ensures)

pub returns-in-None : goal.returns-in-None
returns-in-None c =
    let a = c.args in
    plain_accepts a.set.width a.set.largest (ordered a.order) a.scalar.now a.digits.now c.in_ok-plain.plain c.in_ok-plain.ensures c.in-None.ensures

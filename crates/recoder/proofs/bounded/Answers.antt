-- The reason that is outside stands for the two rules about the group's order.
use Rattle.meaning.specs.Recoding.{group_rules}
use Rattle.scalar.specs.Orders.{ordered}
use Rattle.refusals.specs.Coded.{coded}
use Rattle.recoder.proofs.Refusals.{stands_for}
use Rattle.recoder.proofs.bounded.Goals as goal

pub returns-in-Err : goal.returns-in-Err
returns-in-Err c = λ places words.
    let a = c.args in
    stands_for (coded c.in-Err.reason) a.form a.set.width a.set.largest a.s.now (group_rules (ordered a.order) a.s.now a.group.now) tt c.in-Err.ensures places words _ 0 (c.earlier.ensures.first places words)

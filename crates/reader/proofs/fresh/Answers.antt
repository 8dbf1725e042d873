-- `reader::fresh` meets its contract, by one law for each of its answers. Assumes nothing.
use mathlib.Core.Path.{◌≡◌, ◌∙◌}
use borrow.Author.Rules.{rules}
use mir.Syntax.{w8}
use mir.Val.{to_z, of_z}
use Rattle.meaning.specs.Scalars.{order_of}
use Rattle.reader.proofs.Takes.{fresh_opened, fresh_none, fresh_over, fresh_bad}
use Rattle.reader.proofs.fresh.Goals.{then-state-gt0+then-state-le-MOST_PLACES+in_default, else-state-gt0, else-state-gt0-via-then-state-gt0+else-state-le-MOST_PLACES, else-state-gt0-via-else-state-gt0}
use Rattle.reader.proofs.fresh.Goals as goal

pub returns-in-Some : goal.returns-in-Some
returns-in-Some c =
    let q = c.args.state in
    let is = c.in-Some.ensures in
    rw (is.0, c.into.ensures) at c.opening.ensures ∙ fresh_opened (order_of q.order) c.args.scalar.now q.place q.width q.pending q.spot q.floor c.if-state-gt0.true c.if-state-le-MOST_PLACES.true is.2

pub returns : goal.returns
returns c =
    let q = c.args.state in
    let p : to_z w8 (of_z w8 q.pending) ≡ q.pending = search rules in
    let o = order_of q.order in
    rw p
    (elim c.if-state-gt0.branch [
      | then-state-gt0+then-state-le-MOST_PLACES+in_default w ↦
          fresh_bad o c.args.scalar.now q.place q.width q.pending q.spot q.floor w.if-state-gt0.true w.if-state-le-MOST_PLACES.true w.in_default.ensures
      | else-state-gt0 w ↦
          elim w.else-state-gt0.branch [
            | else-state-gt0-via-then-state-gt0+else-state-le-MOST_PLACES v ↦ fresh_over o c.args.scalar.now q.place q.width q.pending q.spot q.floor v.if-state-le-MOST_PLACES.false
            | else-state-gt0-via-else-state-gt0 v ↦ fresh_none o c.args.scalar.now q.place q.width q.pending q.spot q.floor v.if-state-gt0.false
          ]
    ])

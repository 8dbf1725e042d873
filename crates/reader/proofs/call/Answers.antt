-- `reader::call` meets its contract: inside a window, or where none is open; the pending digit is read back from its byte. Assumes nothing.
use mathlib.Core.Path.{◌≡◌, ◌∙◌}
use borrow.Author.Rules.{rules}
use mir.Syntax.{w8}
use mir.Val.{to_z, of_z}
use Rattle.meaning.specs.Scalars.{order_of}
use Rattle.reader.proofs.Takes.{takes_inside, takes_fresh}
use Rattle.reader.proofs.call.Goals as goal

pub returns-then-state : goal.returns-then-state
returns-then-state c =
    let q = c.args.state in
    let p : to_z w8 (of_z w8 q.pending) ≡ q.pending = search rules in
    rw p at c.pass.ensures ∙ takes_inside (order_of q.order) c.args.scalar.now q.place q.width q.pending q.spot q.floor c.if-state.true

pub returns : goal.returns
returns c =
    let q = c.args.state in
    c.fresh.ensures ∙ takes_fresh (order_of q.order) c.args.scalar.now q.place q.width q.pending q.spot q.floor c.if-state.false

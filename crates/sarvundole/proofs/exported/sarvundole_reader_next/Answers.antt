-- What the call gives is told by its fields, beside the state after it.
use Rattle.std.proofs.Common.{◌≡◌, ◌∙◌, subst, sym, ap, w8}
use borrow.Author.Rules.{rules}
use mir.Val.{to_z, of_z}
use Rattle.reader.specs.States.{moved}
use Rattle.sarvundole.specs.Kept.{Small}
use Rattle.sarvundole.proofs.Plain.{stepped}
use Rattle.sarvundole.proofs.Kept.{moves_small}
use Rattle.sarvundole.proofs.exported.sarvundole_reader_next.Goals as goal

pub kept-after-requires : goal.kept-after-requires
kept-after-requires c =
    let before = c.state-before in
    subst Small (sym (c.moved.ensures ∙ ap (moved before.result) c.call-taken.ensures)) (moves_small c.args.scalar.now before.result before.ensures.1)

pub returns : goal.returns
returns c =
    let d = c.plain-given.result.1 in
    let same : to_z w8 (of_z w8 d) ≡ d = search rules in
    rw same (stepped c.state-before.ensures.0 c.call-taken.ensures (c.kept-after.ensures ∙ c.moved.ensures) c.plain-given.ensures)

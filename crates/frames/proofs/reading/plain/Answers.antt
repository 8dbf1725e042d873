-- Each refusal in its turn, then the digits. Assumes nothing.
use Rattle.std.proofs.Common.{refl, arith, sym, ◌∙◌, ◌≡◌, true}
use Rattle.hexadecimal.proofs.Characters.{bytes_count}
use Rattle.hexadecimal.proofs.Capitals.{pairs_hex}
use Rattle.meaning.specs.Hexadecimal.{bytes_of}
use Rattle.meaning.specs.Frames.{unfit}
use Rattle.frames.proofs.Answering.{plain_readable, plain_fit, unfit_weight, unfit_top, read_long, read_unfit, read_short, read_whole}
use Rattle.frames.proofs.Copying.{plain_room}
use Rattle.frames.proofs.reading.plain.Goals as goal
use Rattle.frames.proofs.reading.plain.Goals.{then-from-sum-via-then-from-sum, then-from-sum-via-else-from-sum+then-from-sum-2}

pub overflow_sub-n : goal.overflow_sub-n
overflow_sub-n c = omega (arith, bytes_count c.args.line.now, c.requires.long)

pub returns-then-n-gt-MOST_PLACES-clause-read : goal.returns-then-n-gt-MOST_PLACES-clause-read
returns-then-n-gt-MOST_PLACES-clause-read c =
    let line = c.args.line.now in
    let few = plain_room line c.requires in
    read_long line c.args.digits.now (plain_readable line c.requires) (omega arith) refl

pub number_at-weight-requires : goal.number_at-weight-requires
number_at-weight-requires c = (pairs_hex c.args.line.now c.requires.pairs, omega (arith, bytes_count c.args.line.now, c.requires.long))

pub number_at-top-requires : goal.number_at-top-requires
number_at-top-requires c = (pairs_hex c.args.line.now c.requires.pairs, omega (arith, bytes_count c.args.line.now, c.requires.long))

pub returns-then-from-sum-clause-read : goal.returns-then-from-sum-clause-read
returns-then-from-sum-clause-read c =
    let line = c.args.line.now in
    let few = plain_room line c.requires in
    let sum = c.tally-sum in
    let weight = c.number_at-weight in
    let top = c.number_at-top in
    let is : unfit (bytes_of line) ≡ true = elim c.then-from-sum.branch [
      | then-from-sum-via-then-from-sum w ↦ unfit_weight (bytes_of line) (λ e. w.if-from-sum.true (c.from.ensures ∙ weight.ensures ∙ e ∙ sym sum.ensures.0))
      | then-from-sum-via-else-from-sum+then-from-sum-2 w ↦ unfit_top (bytes_of line) (λ e. w.if-from-sum-2.true (w.from-else-from-sum.ensures ∙ top.ensures ∙ e ∙ sym sum.ensures.1))
    ] in
    read_unfit line c.args.digits.now (plain_readable line c.requires) (omega arith) is refl

pub returns-then-digits-n-clause-read : goal.returns-then-digits-n-clause-read
returns-then-digits-n-clause-read c =
    let line = c.args.line.now in
    let few = plain_room line c.requires in
    let fits = plain_fit line c.requires (sym c.number_at-weight.ensures ∙ sym c.from.ensures ∙ c.if-from-sum.false ∙ c.tally-sum.ensures.0)
    (sym c.number_at-top.ensures ∙ sym c.from-else-from-sum.ensures ∙ c.if-from-sum-2.false ∙ c.tally-sum.ensures.1) in
    read_short line c.args.digits.now (plain_readable line c.requires) (omega arith) fits (omega arith) refl

pub copy-requires : goal.copy-requires
copy-requires c = (c.requires, omega (arith, plain_room c.args.line.now c.requires))

pub returns-clause-read : goal.returns-clause-read
returns-clause-read c =
    let line = c.args.line.now in
    let few = plain_room line c.requires in
    let fits = plain_fit line c.requires (sym c.number_at-weight.ensures ∙ sym c.from.ensures ∙ c.if-from-sum.false ∙ c.tally-sum.ensures.0)
    (sym c.number_at-top.ensures ∙ sym c.from-else-from-sum.ensures ∙ c.if-from-sum-2.false ∙ c.tally-sum.ensures.1) in
    read_whole line c.args.digits.now (plain_readable line c.requires) (omega arith) fits c.requires.unstated (omega arith) c.number_at-weight.ensures c.number_at-top.ensures
    (sym few) c.copy.ensures

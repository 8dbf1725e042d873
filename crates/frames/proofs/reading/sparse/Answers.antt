-- Each refusal in its turn, then the digits. Assumes nothing.
use Rattle.std.proofs.Common.{refl, arith, rules, sym, subst, ◌∙◌, ◌≡◌, true, false}
use Rattle.hexadecimal.proofs.Characters.{bytes_count}
use Rattle.hexadecimal.proofs.Capitals.{pairs_hex}
use Rattle.layout.proofs.Bytes.{sparse_places, sparse_order}
use Rattle.meaning.specs.Hexadecimal.{bytes_of}
use Rattle.meaning.specs.Frames.{rising, entries_in, unfit}
use Rattle.frames.specs.Orders.{above}
use Rattle.frames.specs.Told.{refused_by, said}
use Rattle.frames.proofs.Answering.{sparse_readable, sparse_weight, sparse_top, sparse_fit, unfit_order, unfit_weight, unfit_top, read_long, read_unfit, read_short, read_whole}
use Rattle.frames.proofs.reading.sparse.Goals as goal
use Rattle.frames.proofs.reading.sparse.Goals.{then-from-count-via-then-from-count, then-from-count-via-else-from-count+then-top-high}

pub number_at-places-requires : goal.number_at-places-requires
number_at-places-requires c = (pairs_hex c.args.line.now c.requires.pairs, omega (arith, bytes_count c.args.line.now, c.requires.long))

pub returns-then-from-gt-MOST_PLACES-clause-read : goal.returns-then-from-gt-MOST_PLACES-clause-read
returns-then-from-gt-MOST_PLACES-clause-read c =
    let line = c.args.line.now in
    let few = sparse_places (bytes_of line) c.requires.sparse ∙ sym c.number_at-places.ensures ∙ sym c.from.ensures in
    read_long line c.args.digits.now (sparse_readable line c.requires) (omega arith) refl

pub number_at-weight-requires : goal.number_at-weight-requires
number_at-weight-requires c = (pairs_hex c.args.line.now c.requires.pairs, omega (arith, bytes_count c.args.line.now, c.requires.long))

pub number_at-top-requires : goal.number_at-top-requires
number_at-top-requires c = (pairs_hex c.args.line.now c.requires.pairs, omega (arith, bytes_count c.args.line.now, c.requires.long))

pub returns-in_err-high-clause-read : goal.returns-in_err-high-clause-read
returns-in_err-high-clause-read c =
    let line = c.args.line.now in
    let few = sparse_places (bytes_of line) c.requires.sparse ∙ sym c.number_at-places.ensures ∙ sym c.from.ensures in
    let broken : rising 0 c.number_at-places.result (entries_in (bytes_of line)) ≡ false = search rules in
    let order = sparse_order (bytes_of line) c.requires.sparse ∙ subst (λ n. rising 0 n (entries_in (bytes_of line)) ≡ false) c.number_at-places.ensures broken in
    let is : said c.from_residual.result ≡ refused_by 21 = search rules in
    read_unfit line c.args.digits.now (sparse_readable line c.requires) (omega arith) (unfit_order (bytes_of line) order) is

pub returns-then-from-count-clause-read : goal.returns-then-from-count-clause-read
returns-then-from-count-clause-read c =
    let line = c.args.line.now in
    let few = sparse_places (bytes_of line) c.requires.sparse ∙ sym c.number_at-places.ensures ∙ sym c.from.ensures in
    let order : (rising 0 c.number_at-places.result (entries_in (bytes_of line)) ≡ true) × (c.in_ok-high.high ≡ above 0 (entries_in (bytes_of line))) = search rules in
    let rises = subst (λ n. rising 0 n (entries_in (bytes_of line)) ≡ true) c.number_at-places.ensures order.0 in
    let weight = sparse_weight line c.requires rises c.count.result c.count.ensures in
    let top = sparse_top line c.requires rises in
    let is : unfit (bytes_of line) ≡ true = elim c.then-from-count.branch [
      | then-from-count-via-then-from-count w ↦ unfit_weight (bytes_of line) (λ e. omega (arith, c.from-2.ensures, c.number_at-weight.ensures, weight))
      | then-from-count-via-else-from-count+then-top-high w ↦ unfit_top (bytes_of line) (λ e. w.if-top-high.true (c.number_at-top.ensures ∙ e ∙ top ∙ sym order.1))
    ] in
    read_unfit line c.args.digits.now (sparse_readable line c.requires) (omega arith) is refl

pub returns-then-digits-from-clause-read : goal.returns-then-digits-from-clause-read
returns-then-digits-from-clause-read c =
    let line = c.args.line.now in
    let few = sparse_places (bytes_of line) c.requires.sparse ∙ sym c.number_at-places.ensures ∙ sym c.from.ensures in
    let order : (rising 0 c.number_at-places.result (entries_in (bytes_of line)) ≡ true) × (c.in_ok-high.high ≡ above 0 (entries_in (bytes_of line))) = search rules in
    let rises = subst (λ n. rising 0 n (entries_in (bytes_of line)) ≡ true) c.number_at-places.ensures order.0 in
    let fits = sparse_fit line c.requires rises c.count.result c.count.ensures (omega (arith, c.from-2.ensures, c.number_at-weight.ensures))
    (sym c.number_at-top.ensures ∙ c.if-top-high.false ∙ order.1) in
    read_short line c.args.digits.now (sparse_readable line c.requires) (omega arith) fits (omega (arith, c.from-3.ensures)) refl

pub returns-clause-read : goal.returns-clause-read
returns-clause-read c =
    let line = c.args.line.now in
    let few = sparse_places (bytes_of line) c.requires.sparse ∙ sym c.number_at-places.ensures ∙ sym c.from.ensures in
    let order : (rising 0 c.number_at-places.result (entries_in (bytes_of line)) ≡ true) × (c.in_ok-high.high ≡ above 0 (entries_in (bytes_of line))) = search rules in
    let rises = subst (λ n. rising 0 n (entries_in (bytes_of line)) ≡ true) c.number_at-places.ensures order.0 in
    let fits = sparse_fit line c.requires rises c.count.result c.count.ensures (omega (arith, c.from-2.ensures, c.number_at-weight.ensures))
    (sym c.number_at-top.ensures ∙ c.if-top-high.false ∙ order.1) in
    read_whole line c.args.digits.now (sparse_readable line c.requires) (omega arith) fits c.requires.unstated (omega (arith, c.from-3.ensures)) c.number_at-weight.ensures c.number_at-top.ensures
    (omega (arith, c.from.ensures)) c.spread.ensures

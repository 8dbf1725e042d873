-- Each return is one answer. Assumes nothing.
use Rattle.std.proofs.Common.{ap, ◌∙◌}
use Rattle.meaning.specs.Digits.{entries}
use Rattle.second.proofs.Refusals.{refuses_set, all_held, accepts}
use Rattle.second.proofs.run_second.Goals as goal

pub returns-in_err-tried : goal.returns-in_err-tried
returns-in_err-tried c = refuses_set c.args.set.width c.args.set.largest c.args.tape.now c.args.modulus c.args.base c.args.multiples.now _ _ c.in_err-tried.ensures c.from_residual.ensures.1

pub reach-state-requires-clause-held : goal.reach-state-requires-clause-held
reach-state-requires-clause-held c =
    let (_, largest, pair) = c.in_ok-tried.ensures in
    all_held c.args.set.width c.args.set.largest c.args.tape.now c.args.modulus c.args.base c.args.multiples.now pair (c.entries-count.ensures ∙ ap entries largest)
    c.if-modulus-eq0.false c.if-tape-gt-MOST_WORDS.false c.if-multiples-all.false c.in_default.ensures c.store.ensures

pub returns : goal.returns
returns c =
    let (_, largest, pair) = c.in_ok-tried.ensures in
    accepts c.args.set.width c.args.set.largest c.args.tape.now c.args.modulus c.args.base c.args.multiples.now pair (c.entries-count.ensures ∙ ap entries largest)
    c.if-modulus-eq0.false c.if-tape-gt-MOST_WORDS.false c.if-multiples-all.false c.in_default.ensures c.store.ensures c.reach-state.ensures c.cost_of.ensures

-- Each return is one answer. Assumes nothing.
use Rattle.std.proofs.Common.{ap, sym, ◌∙◌}
use Rattle.meaning.specs.Digits.{entries}
use Rattle.powers.proofs.Refusals.{refuses_set, refuses_steps, accepts}
use Rattle.powers.proofs.run_powers.Goals as goal

pub returns-in_err-tried : goal.returns-in_err-tried
returns-in_err-tried c =
    let a = c.args in
    refuses_set a.set.width a.set.largest a.tape.now a.modulus a.base a.inverse a.powers.now a.inverses.now _ _ c.in_err-tried.ensures c.from_residual.ensures.1

pub returns-in_err-judged : goal.returns-in_err-judged
returns-in_err-judged c =
    let a = c.args in
    let (_, largest, pair) = c.in_ok-tried.ensures in
    refuses_steps a.set.width a.set.largest a.tape.now a.modulus a.base a.inverse a.powers.now a.inverses.now pair (c.entries-count.ensures ∙ ap entries largest)
    _ _ (rw c.min.ensures at c.in_err-judged.ensures) c.from_residual-in_err-judged.ensures.1

pub returns : goal.returns
returns c =
    let a = c.args in
    let (_, largest, pair) = c.in_ok-tried.ensures in
    accepts a.set.width a.set.largest a.tape.now a.modulus a.base a.inverse a.powers.now a.inverses.now pair (c.entries-count.ensures ∙ ap entries largest)
    (rw c.min.ensures at c.in_ok-judged.ensures) c.store.ensures c.store-2.ensures (sym c.times.ensures ∙ c.if-times-modulus.false) c.reach-state.ensures c.twice.ensures

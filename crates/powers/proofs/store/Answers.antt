-- Each power is found from the one before. Assumes nothing.
use Rattle.std.proofs.Common.{◌++◌, drop, ap, ◌∙◌, arith}
use Rattle.std.proofs.lemmas.List.{length-take-le}
use Rattle.meaning.specs.Powering.{powers_of}
use Rattle.walk.proofs.Storing.{stores_none, stores_more}
use Rattle.run.proofs.Multiples.{stores_exact}
use Rattle.powers.proofs.OddPowers.{stored_first, stored_next}
use Rattle.powers.proofs.store.Goals as goal

pub loop-stored-init : goal.loop-stored-init
loop-stored-init c = stores_none _ _ _ (stored_first c.args.modulus c.args.base)

pub loop-stored-preserved : goal.loop-stored-preserved
loop-stored-preserved c =
    let a = c.args in
    let l = c.loop-stored in
    stores_more _ _ _ l.invariant (omega (arith, length-take-le a.count a.powers.now c.requires.count_in_bounds)) (omega arith)
    (c.times-power.ensures ∙ stored_next a.modulus a.base l.stored-index l.invariant.next_is c.times-square.ensures)

pub returns : goal.returns
unfolding powers_of
returns c =
    let room = length-take-le c.args.count c.args.powers.now c.requires.count_in_bounds in
    ap (λ xs. xs ++ drop c.args.count c.args.powers.now) (stores_exact c.loop-stored.invariant room c.loop-stored-test.false)

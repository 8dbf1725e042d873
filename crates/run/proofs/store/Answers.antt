-- Each multiple is found from the one before. Assumes nothing.
use Rattle.std.proofs.Common.{◌+◌, ◌%◌, ◌++◌, drop, ap, ◌∙◌, arith}
use Rattle.std.proofs.lemmas.List.{length-take-le}
use native.Mathlib.Nat.{mod-lt}
use Rattle.meaning.specs.Running.{multiples_of}
use Rattle.walk.proofs.Storing.{stores_none, stores_more}
use Rattle.run.proofs.Multiples.{stores_exact, stored_first, stored_next, stored_lt}
use Rattle.run.proofs.store.Goals as goal

pub loop-stored-init : goal.loop-stored-init
loop-stored-init c = stores_none _ _ _ (stored_first c.args.modulus c.args.base)

pub plus-multiple-requires : goal.plus-multiple-requires
plus-multiple-requires c =
    let a = c.args in
    let p = c.requires.modulus_nonzero in
    let l = c.loop-stored in
    omega (arith, l.invariant.next_is, stored_lt a.modulus a.base p l.stored-index, c.plus-twice.ensures, mod-lt (a.base % a.modulus + a.base % a.modulus) p)

pub loop-stored-preserved : goal.loop-stored-preserved
loop-stored-preserved c =
    let a = c.args in
    let l = c.loop-stored in
    stores_more _ _ _ l.invariant (omega (arith, length-take-le a.count a.multiples.now c.requires.count_in_bounds)) (omega arith) (c.plus-multiple.ensures ∙ stored_next a.modulus a.base l.stored-index l.invariant.next_is c.plus-twice.ensures)

pub returns : goal.returns
unfolding multiples_of
returns c =
    let room = length-take-le c.args.count c.args.multiples.now c.requires.count_in_bounds in
    ap (λ xs. xs ++ drop c.args.count c.args.multiples.now) (stores_exact c.loop-stored.invariant room c.loop-stored-test.false)

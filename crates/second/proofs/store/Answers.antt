-- Each negative is found from its multiple. Assumes nothing.
use Rattle.std.proofs.Common.{◌++◌, ◌+◌, drop, ap, ◌∙◌, arith}
use Rattle.laws.proofs.Stores.{fill_all}
use Rattle.meaning.specs.Running.{multiples_of}
use Rattle.meaning.specs.SecondChip.{second_multiples_of}
use Rattle.run.proofs.Multiples.{stored_lt}
use Rattle.second.proofs.Entries.{all, all_length, fills_first, stored_rest, reads, fills_more}
use Rattle.second.proofs.store.Goals as goal

pub loop-e-init : goal.loop-e-init
unfolding multiples_of
loop-e-init c = let a = c.args in fills_first a.count a.modulus a.base a.multiples.now _ c.store.ensures c.requires.count_in_bounds

pub overflow_sub-modulus : goal.overflow_sub-modulus
overflow_sub-modulus c =
    let a = c.args in
    let l = c.loop-e in
    omega (arith, reads a.count a.modulus a.base l.e l.invariant (omega arith), stored_lt a.modulus a.base c.requires.modulus_nonzero l.e)

pub loop-e-preserved : goal.loop-e-preserved
loop-e-preserved c =
    let a = c.args in
    let l = c.loop-e in
    fills_more a.count a.modulus a.base l.multiples l.e l.invariant (omega arith) (omega arith) c.plus.ensures

pub returns : goal.returns
unfolding multiples_of second_multiples_of
returns c =
    let a = c.args in
    let l = c.loop-e in
    let d = c.store.new.multiples in
    let list = all a.count a.modulus a.base in
    let k = all_length a.count a.modulus a.base in
    fill_all list d l.multiples (a.count + l.e) l.invariant (omega (arith, k, l.invariant.within))
    ∙ ap (λ j. list ++ drop j d) k ∙ ap (λ xs. list ++ xs) (stored_rest a.count a.modulus a.base a.multiples.now d c.store.ensures c.requires.count_in_bounds)

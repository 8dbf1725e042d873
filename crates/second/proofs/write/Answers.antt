-- Each word is stored at its index. Assumes nothing.
use Rattle.std.proofs.Common.{◌++◌, get_or, drop, sym, ap, ◌∙◌, arith}
use Rattle.laws.proofs.Stores.{fill_none, fill_more, fill_all}
use Rattle.meaning.specs.SecondChip.{translation}
use Rattle.walk.proofs.Translation.{translation_length, translation_at}
use Rattle.second.proofs.Words.{good_step}
use Rattle.second.proofs.write.Goals as goal

pub turned-requires : goal.turned-requires
turned-requires c =
    let a = c.args in
    let i = c.loop-i.i in
    let g = c.requires.by_index i (omega arith) in
    (omega arith, g.entry, good_step a.count i (get_or a.tape.now i 0) g)

pub loop-i-init : goal.loop-i-init
loop-i-init c = fill_none (translation c.args.count c.args.tape.now) c.args.words.now

pub loop-i-preserved : goal.loop-i-preserved
loop-i-preserved c =
    let a = c.args in
    let l = c.loop-i in
    fill_more (translation a.count a.tape.now) a.words.now l.words l.i c.turned.result 0 l.invariant
    (omega (arith, translation_length a.count a.tape.now)) (omega (arith, l.invariant.same_length))
    (c.turned.ensures ∙ sym (translation_at a.count a.tape.now l.i (omega arith)))

pub returns : goal.returns
returns c =
    let a = c.args in
    let l = c.loop-i in
    let k = translation_length a.count a.tape.now in
    fill_all (translation a.count a.tape.now) a.words.now l.words l.i l.invariant (omega (arith, k, l.invariant.within))
    ∙ ap (λ j. translation a.count a.tape.now ++ drop j a.words.now) k

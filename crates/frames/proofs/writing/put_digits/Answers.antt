-- One digit more is stored. Assumes nothing.
use Rattle.std.proofs.Common.{◌≡◌, ◌+◌, ◌*◌, rules, arith, ap, sym, ◌∙◌, [], drop, get_or, pos, w8, to_z, of_z, drop_of_length-le}
use Rattle.std.proofs.lemmas.List.Edits.{sets}
use Rattle.meaning.specs.Hexadecimal.{pair, written}
use Rattle.meaning.specs.Frames.{byte_of, digit_bytes}
use Rattle.frames.proofs.Filling.{digits_then}
use Rattle.frames.proofs.writing.put_digits.Goals as goal

pub loop-i-preserved : goal.loop-i-preserved
loop-i-preserved c =
    let a = c.args in
    let l = c.loop-i in
    let ds = a.digits.now in
    let back : to_z w8 (of_z w8 (get_or ds l.i (pos 0))) ≡ get_or ds l.i (pos 0) = search rules in
    ap (λ o. sets o (a.at + 2 * (l.i + 1)) (written (digit_bytes (drop (l.i + 1) ds))))
    (c.put.ensures ∙ ap (λ x. sets l.out (a.at + 2 * l.i) (pair x [])) (c.byte_of.ensures ∙ ap byte_of back))
    ∙ sym (digits_then l.out a.at ds l.i (omega arith))
    ∙ l.invariant

pub returns : goal.returns
unfolding written digit_bytes
returns c =
    let l = c.loop-i in
    rw (drop_of_length-le c.args.digits.now {i = l.i} (omega arith)) at l.invariant

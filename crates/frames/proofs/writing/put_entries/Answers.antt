-- One entry more is stored. Assumes nothing.
use Rattle.std.proofs.Common.{◌≡◌, ◌+◌, ◌*◌, rules, arith, ap, sym, ◌∙◌, [], ◌∷◌, drop, get_or, pos, w8, to_z, of_z, drop_of_length-le}
use Rattle.std.proofs.lemmas.List.Edits.{sets}
use Rattle.meaning.specs.Digits.{nonzero}
use Rattle.meaning.specs.Hexadecimal.{written}
use Rattle.meaning.specs.Frames.{entries_from, entry_bytes}
use Rattle.frames.proofs.Entering.{entered, entered_then, weight_then}
use Rattle.frames.proofs.writing.put_entries.Goals as goal

pub put_entry-at-requires : goal.put_entry-at-requires
put_entry-at-requires c =
    let l = c.loop-i in
    let ds = c.args.digits.now in
    let back : to_z w8 (of_z w8 (get_or ds l.i (pos 0))) ≡ get_or ds l.i (pos 0) = search rules in
    omega (arith, ap nonzero back, weight_then ds l.i (omega arith))

pub loop-i-preserved : goal.loop-i-preserved
loop-i-preserved c =
    let l = c.loop-i in
    let p = c.put_entry-at in
    let ds = c.args.digits.now in
    let d = get_or ds l.i (pos 0) in
    let back : to_z w8 (of_z w8 (get_or ds l.i (pos 0))) ≡ get_or ds l.i (pos 0) = search rules in
    let next : p.result ≡ l.at + 6 * nonzero d = p.ensures.next_is ∙ ap (λ x. l.at + 6 * nonzero x) back in
    record {
      room = omega (arith, weight_then ds l.i (omega arith));
      stored =
          ap (λ o. sets o p.result (entered (l.i + 1) (drop (l.i + 1) ds))) (p.ensures.out_is ∙ ap (λ x. sets l.out l.at (entered l.i (x ∷ []))) back)
          ∙ ap (λ k. sets (sets l.out l.at (entered l.i (d ∷ []))) k (entered (l.i + 1) (drop (l.i + 1) ds))) next
          ∙ sym (entered_then l.out l.at ds l.i (omega arith))
          ∙ l.invariant.stored;
    }

pub returns : goal.returns
unfolding written entry_bytes entries_from
returns c =
    let l = c.loop-i in
    rw (drop_of_length-le c.args.digits.now {i = l.i} (omega arith)) at l.invariant.stored

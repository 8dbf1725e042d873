-- A 0 has no entry, and another digit has one. Assumes nothing.
use Rattle.std.proofs.Common.{◌≢◌, ◌+◌, arith, ap, ◌∙◌, [], pos, w8, of_z}
use Rattle.std.proofs.lemmas.List.Edits.{sets}
use Rattle.std.proofs.lemmas.Int.{to_z-of_z}
use Rattle.laws.proofs.Signed.{bits_none}
use Rattle.meaning.specs.Hexadecimal.{pair}
use Rattle.meaning.specs.Frames.{byte_of}
use Rattle.forms.proofs.Strings.{nonzero_one, nonzero_none}
use Rattle.frames.proofs.Entering.{enters_none, enters_one}
use Rattle.frames.proofs.writing.put_entry.Goals as goal

pub returns-then-digit-eq0 : goal.returns-then-digit-eq0
returns-then-digit-eq0 c =
    let a = c.args in
    enters_none a.digit a.place a.at a.out.now (nonzero_none (bits_none w8 a.digit c.ranges.digit c.if-digit-eq0.true))

pub put_number-requires : goal.put_number-requires
put_number-requires c = omega (arith, nonzero_one c.args.digit (λ e. c.if-digit-eq0.false (ap (of_z w8) e)))

pub put-requires : goal.put-requires
put-requires c = omega (arith, nonzero_one c.args.digit (λ e. c.if-digit-eq0.false (ap (of_z w8) e)), c.put_number.auto.out)

pub returns : goal.returns
returns c =
    let a = c.args in
    let some : a.digit ≢ pos 0 = λ e. c.if-digit-eq0.false (ap (of_z w8) e) in
    let byte = c.byte_of.ensures ∙ ap byte_of (to_z-of_z w8 a.digit c.ranges.digit) in
    enters_one a.digit a.place a.at a.out.now (nonzero_one a.digit some) c.put_number.ensures (c.put.ensures ∙ ap (λ x. sets c.put_number.new.out (a.at + 4) (pair x [])) byte)

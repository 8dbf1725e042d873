-- One column more.
use Rattle.std.proofs.Common.{◌≡◌, ◌∙◌, ◌<◌, length, arith, rules}
use mir.Syntax.{w8}
use borrow.Author.Rules.{sfits_of}
use Rattle.laws.proofs.Signed.{bits_none, bits_some}
use Rattle.forms.proofs.Strings.{nonzero_le}
use Rattle.meaning.specs.Digits.{nonzero}
use Rattle.meaning.specs.Joint.{column}
use Rattle.joint.specs.Places.{first_of, second_of, bits_of, columns_in}
use Rattle.joint.proofs.Counting.{tally_none, tally_few, tally_same, tally_next, tally_all}
use Rattle.joint.proofs.Standing.{stands_none, stands_more, column_at, columns_count}
use Rattle.joint.proofs.weigh.Goals.{then-digit-ne0, else-digit-ne0}
use Rattle.joint.proofs.weigh.Goals as goal

pub loop-i-init : goal.loop-i-init
loop-i-init c =
    let A = first_of c.args.scalars in
    let B = second_of c.args.scalars in
    let n = bits_of c.args.scalars in
    (tally_none (columns_in A B n), stands_none A B n)

pub overflow_add-count : goal.overflow_add-count
overflow_add-count c =
    let s = c.args.scalars in
    let l = c.loop-i in
    let few = tally_few (columns_in (first_of s) (second_of s) (bits_of s)) l.count l.i l.invariant.0 in
    record { fits = omega (arith, few, s.short, c.from.ensures, c.counted.ensures, nonzero_le c.column-digit.result) }

pub loop-i-preserved : goal.loop-i-preserved
loop-i-preserved c =
    let A = first_of c.args.scalars in
    let B = second_of c.args.scalars in
    let n = bits_of c.args.scalars in
    let ds = columns_in A B n in
    let l = c.loop-i in
    let t = c.place-turn in
    let s = l.invariant.1 in
    let here : c.column-digit.result ≡ column t.result.first t.result.second = search rules in
    let d = here ∙ column_at A B n l.i l.carry l.other s (omega arith) t.result t.ensures in
    let within : l.i < length ds = omega (arith, columns_count A B n) in
    let counted : c.from.result ≡ nonzero c.column-digit.result = search rules in (
      elim c.if-digit-ne0.branch [
        | then-digit-ne0 w ↦ rw w.count-is (tally_next ds l.count l.i c.from.result l.invariant.0 within d counted (bits_some w8 c.column-digit.result w.if-digit-ne0.true))
        | else-digit-ne0 w ↦ rw w.count-is (tally_same ds l.count l.i c.from.result l.invariant.0 within d counted (bits_none w8 c.column-digit.result (sfits_of c.column-digit.type_inv) w.if-digit-ne0.false))
      ],
      stands_more A B n l.i l.carry l.other s (omega arith) t.result t.ensures,
    )

pub returns : goal.returns
returns c =
    let A = first_of c.args.scalars in
    let B = second_of c.args.scalars in
    let n = bits_of c.args.scalars in
    let l = c.loop-i in
    let (w, t) = tally_all (columns_in A B n) l.count l.i l.invariant.0 (omega (arith, columns_count A B n)) in
    record { weight_is = w; top_is = t }

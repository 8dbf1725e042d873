-- One place more in both rows.
use Rattle.std.proofs.Common.{◌≡◌, ◌∙◌, sym, ◌<◌, suc, pos, arith, rules}
use mir.Syntax.{w8}
use mir.Val.{to_z, of_z}
use Rattle.laws.proofs.Stores.{fill_more, fill_exact}
use Rattle.joint.specs.Places.{first_of, second_of, bits_of}
use Rattle.pairs.specs.Columns.{fst, snd, row, jsf_n}
use Rattle.joint.proofs.Standing.{first_at, second_at, first_length, second_length, stands_more}
use Rattle.joint.proofs.rows.Goals as goal

pub loop-i-preserved : goal.loop-i-preserved
loop-i-preserved c =
    let a = c.args in
    let A = first_of a.scalars in
    let B = second_of a.scalars in
    let n = bits_of a.scalars in
    let J = jsf_n (suc n) A B in
    let l = c.loop-i in
    let t = c.place-turn in
    let s = l.invariant.2 in
    let x : to_z w8 (of_z w8 t.result.first) ≡ t.result.first = search rules in
    let y : to_z w8 (of_z w8 t.result.second) ≡ t.result.second = search rules in
    let less : l.i < suc n = omega (arith, c.loop-i-test.true, c.requires.first_len, l.invariant.0.same_length) in (
      fill_more (row fst J) a.first.now l.first l.i _ (pos 0) l.invariant.0 (omega (arith, first_length A B n)) (omega (arith, c.loop-i-test.true, l.invariant.0.same_length))
          (x ∙ t.ensures.first_is ∙ sym (first_at A B n l.i l.carry l.other s less)),
      fill_more (row snd J) a.second.now l.second l.i _ (pos 0) l.invariant.1 (omega (arith, second_length A B n)) (omega (arith, less, c.requires.second_len, l.invariant.1.same_length))
          (y ∙ t.ensures.second_is ∙ sym (second_at A B n l.i l.carry l.other s less)),
      stands_more A B n l.i l.carry l.other s less t.result t.ensures,
    )

pub returns-clause-first_after : goal.returns-clause-first_after
returns-clause-first_after c =
    let A = first_of c.args.scalars in
    let B = second_of c.args.scalars in
    let n = bits_of c.args.scalars in
    let l = c.loop-i in
    fill_exact (row fst (jsf_n (suc n) A B)) c.args.first.now l.first l.i l.invariant.0 (omega (arith, c.requires.first_len, first_length A B n)) (omega (arith, c.requires.first_len, first_length A B n))

pub returns-clause-second_after : goal.returns-clause-second_after
returns-clause-second_after c =
    let A = first_of c.args.scalars in
    let B = second_of c.args.scalars in
    let n = bits_of c.args.scalars in
    let l = c.loop-i in
    fill_exact (row snd (jsf_n (suc n) A B)) c.args.second.now l.second l.i l.invariant.1 (omega (arith, c.requires.second_len, second_length A B n)) (omega (arith, c.requires.first_len, second_length A B n))

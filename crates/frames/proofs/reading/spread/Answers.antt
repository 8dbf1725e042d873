-- One entry more stands at its place. Assumes nothing.
use Rattle.std.proofs.Common.{◌≡◌, rules, arith, subst, ◌∙◌, length, take, w8, to_z, of_z}
use Rattle.std.proofs.Math.Seq.{length-take-le}
use Rattle.meaning.specs.Hexadecimal.{bytes_of}
use Rattle.frames.proofs.Ordering.{entry}
use Rattle.frames.proofs.Spreading.{Spread, spread_none, spread_more, spread_all, place_within}
use Rattle.frames.proofs.reading.spread.Goals as goal

pub loop-e-init : goal.loop-e-init
loop-e-init c =
    let a = c.args in
    let n = c.from.result in
    let e : n ≡ a.places = c.from.ensures in
    let count : length (take n a.digits.now) ≡ a.places = length-take-le n a.digits.now (omega (arith, c.requires.line_value.1)) ∙ e in
    rw (c.clear.ensures, count, e) (spread_none (bytes_of a.line.now) a.places a.digits.now c.requires.line_value.1 c.requires.line_value.0)

pub bounds-digits-from : goal.bounds-digits-from
bounds-digits-from c =
    let a = c.args in
    let l = c.loop-e in
    let n = c.count-e-end in
    omega (
      arith,
      c.from-in-loop-e.ensures,
      c.entry-place.ensures.place,
      l.invariant.same_length,
      c.requires.line_value.1,
      place_within (bytes_of a.line.now) a.places a.digits.now c.requires.line_value.1 n.result n.ensures l.digits l.e l.invariant c.loop-e-test.true,
    )

pub loop-e-preserved : goal.loop-e-preserved
loop-e-preserved c =
    let a = c.args in
    let l = c.loop-e in
    let n = c.count-e-end in
    let bs = bytes_of a.line.now in
    let place : c.from-in-loop-e.result ≡ (entry bs l.e).0 = c.from-in-loop-e.ensures ∙ c.entry-place.ensures.place in
    let back : to_z w8 (of_z w8 c.entry-place.result.1) ≡ c.entry-place.result.1 = search rules in
    let digit : to_z w8 (of_z w8 c.entry-place.result.1) ≡ (entry bs l.e).1 = back ∙ c.entry-place.ensures.digit in
    rw (place, digit) (spread_more bs a.places a.digits.now c.requires.line_value.1 n.result n.ensures l.digits l.e l.invariant c.loop-e-test.true)

pub returns : goal.returns
returns c =
    let a = c.args in
    let l = c.loop-e in
    let n = c.count-e-end in
    let e : l.e ≡ n.result = omega arith in
    spread_all a.line.now c.requires.sparse_frame.0 n.result n.ensures a.places c.requires.sparse_frame.1 a.digits.now l.digits c.requires.line_value.1
    (subst (Spread (bytes_of a.line.now) a.places a.digits.now l.digits) e l.invariant)

-- One digit more is written. Assumes nothing.
use Rattle.std.proofs.Common.{◌++◌, ◌<◌, arith, ap, ◌∙◌, length, drop, pos, w8, to_z, of_z}
use Rattle.std.proofs.lemmas.Int.{to_z-of_z}
use Rattle.hexadecimal.proofs.Characters.{bytes_count}
use Rattle.hexadecimal.proofs.Capitals.{pairs_hex}
use Rattle.laws.proofs.Stores.{fill_more, fill_all}
use Rattle.layout.proofs.Bytes.{digits_places}
use Rattle.meaning.specs.Hexadecimal.{bytes_of}
use Rattle.meaning.specs.Frames.{digits_in}
use Rattle.frames.proofs.Copying.{plain_count, plain_digit}
use Rattle.frames.proofs.reading.copy.Goals as goal

pub overflow_sub-i-end : goal.overflow_sub-i-end
overflow_sub-i-end c = omega (arith, bytes_count c.args.line.now, c.requires.0.long)

pub digit_at-requires : goal.digit_at-requires
digit_at-requires c = (pairs_hex c.args.line.now c.requires.0.pairs, omega arith)

pub bounds-digits-i : goal.bounds-digits-i
bounds-digits-i c =
    let line = c.args.line.now in
    omega (arith, plain_count line c.requires.0, digits_places (bytes_of line), c.requires.1)

pub loop-i-preserved : goal.loop-i-preserved
loop-i-preserved c =
    let line = c.args.line.now in
    let ds = digits_in (bytes_of line) in
    let l = c.loop-i in
    let h : l.i < length ds = omega (arith, plain_count line c.requires.0) in
    let digit = to_z-of_z w8 c.digit_at.result (record { sfits = c.digit_at.type_inv }) ∙ c.digit_at.ensures ∙ plain_digit line c.requires.0 l.i h in
    fill_more ds c.args.digits.now l.digits l.i (to_z w8 (of_z w8 c.digit_at.result)) (pos 0) l.invariant h (omega (arith, digits_places (bytes_of line), c.requires.1)) digit

pub returns : goal.returns
returns c =
    let line = c.args.line.now in
    let ds = digits_in (bytes_of line) in
    let l = c.loop-i in
    let d₀ = c.args.digits.now in
    fill_all ds d₀ l.digits l.i l.invariant (omega (arith, l.invariant.within, plain_count line c.requires.0))
    ∙ ap (λ m. ds ++ drop m d₀) (digits_places (bytes_of line))

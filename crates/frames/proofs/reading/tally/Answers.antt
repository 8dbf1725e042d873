-- One digit more is counted. Assumes nothing.
use Rattle.std.proofs.Common.{◌≡◌, ◌<◌, arith, ap, sym, ◌∙◌, length, get_or, pos, w8, of_z}
use Rattle.hexadecimal.proofs.Characters.{bytes_count}
use Rattle.hexadecimal.proofs.Capitals.{pairs_hex}
use Rattle.laws.proofs.Signed.{bits_none}
use Rattle.meaning.specs.Hexadecimal.{bytes_of}
use Rattle.meaning.specs.Frames.{digits_in}
use Rattle.frames.proofs.Copying.{plain_count, plain_digit}
use Rattle.frames.proofs.Counting.{pass_none, pass_weight, pass_zero, pass_one, pass_all}
use Rattle.frames.proofs.reading.tally.Goals as goal
use Rattle.frames.proofs.reading.tally.Goals.{then-digit_at-ne0, else-digit_at-ne0}

pub overflow_sub-i-end : goal.overflow_sub-i-end
overflow_sub-i-end c = omega (arith, bytes_count c.args.line.now, c.requires.long)

pub loop-i-init : goal.loop-i-init
loop-i-init c = pass_none (digits_in (bytes_of c.args.line.now))

pub digit_at-requires : goal.digit_at-requires
digit_at-requires c = (pairs_hex c.args.line.now c.requires.pairs, omega arith)

pub overflow_add-count : goal.overflow_add-count
overflow_add-count c =
    let l = c.loop-i in
    omega (arith, pass_weight (digits_in (bytes_of c.args.line.now)) l.count.weight l.count.top l.i l.invariant)

pub loop-i-preserved : goal.loop-i-preserved
loop-i-preserved c =
    let line = c.args.line.now in
    let ds = digits_in (bytes_of line) in
    let l = c.loop-i in
    let h : l.i < length ds = omega (arith, plain_count line c.requires) in
    let digit : c.digit_at.result ≡ get_or ds l.i (pos 0) = c.digit_at.ensures ∙ plain_digit line c.requires l.i h in
    elim c.if-digit_at-ne0.branch [
      | then-digit_at-ne0 w ↦ rw w.count-is (pass_one ds l.count.weight l.count.top l.i l.invariant h (λ e. w.if-digit_at-ne0.true (ap (of_z w8) (digit ∙ e))))
      | else-digit_at-ne0 w ↦
          rw w.count-is
          (pass_zero ds l.count.weight l.count.top l.i l.invariant h (sym digit ∙ bits_none w8 c.digit_at.result (record { sfits = c.digit_at.type_inv }) w.if-digit_at-ne0.false))
    ]

pub returns : goal.returns
returns c =
    let line = c.args.line.now in
    let l = c.loop-i in
    pass_all (digits_in (bytes_of line)) l.count.weight l.count.top l.i l.invariant (omega (arith, plain_count line c.requires))

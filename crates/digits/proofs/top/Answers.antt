-- The highest digit that is not 0 has the top.
use Rattle.std.proofs.Common.{◌≡◌, ◌∙◌, sym, ap, length, take, get_or, pos, ◌+◌, ◌-◌, arith, rules}
use mir.Syntax.{w8}
use lib.Seq.{take_all}
use Rattle.laws.proofs.Signed.{bits_none, bits_some}
use Rattle.forms.proofs.Strings.{top_same, top_next}
use Rattle.meaning.specs.Digits.{top}
use Rattle.digits.proofs.top.Goals as goal

pub loop-i-init : goal.loop-i-init
loop-i-init c = let ds = c.args.digits.now in sym (ap top (take_all (length ds) ds (omega arith)))

pub returns-then-digits-i-ne0 : goal.returns-then-digits-i-ne0
returns-then-digits-i-ne0 c =
    let ds = c.args.digits.now in
    let i = c.loop-i.i - 1 in
    let e : c.loop-i.i ≡ i + 1 = omega arith in
    sym ((rw e at c.loop-i.invariant) ∙ top_next ds i (omega arith) (bits_some w8 _ c.if-digits-i-ne0.true))

pub loop-i-preserved : goal.loop-i-preserved
loop-i-preserved c =
    let ds = c.args.digits.now in
    let i = c.loop-i.i - 1 in
    let e : c.loop-i.i ≡ i + 1 = omega arith in
    let none : get_or ds i (pos 0) ≡ pos 0 = bits_none w8 _ (search rules) c.if-digits-i-ne0.false in
    (rw e at c.loop-i.invariant) ∙ top_same ds i (omega arith) none

pub returns : goal.returns
unfolding top
returns c =
    let ds = c.args.digits.now in
    let none : c.loop-i.i ≡ 0 = omega arith in
    sym (c.loop-i.invariant ∙ ap (λ i. top (take i ds)) none)

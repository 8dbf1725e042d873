-- What is worked out of half of the window and of the part of it that leads.
use Rattle.std.proofs.Common.{◌≡◌, ◌+◌, ◌*◌, ◌-◌, ◌/◌, ◌%◌, ◌^◌, pos, ◌-ℤ◌, ap, ◌∙◌, ℕ, arith, w8}
use lib.Count.{count_trailing_zeros}
use borrow.Author.Rules.{sfits_of}
use mir.Facts.{to_z-of_z}
use Rattle.laws.proofs.Shifts.{one_shifted}
use Rattle.width.specs.Widths.{Wide}
use Rattle.windows.proofs.Digits.{worked_out}
use Rattle.windows.proofs.work_out.Goals as goal

-- 2 ^ w as the code shifts it
full : {w : ℕ} → Wide w → 1 * 2 ^ w % 2 ^ 32 ≡ 2 ^ w
full {w} h = one_shifted w 32 (omega (arith, h))

pub overflow_shr-half : goal.overflow_shr-half
overflow_shr-half c =
    let a = c.args in
    let r = c.requires in
    (worked_out a.w.bits a.s a.less a.w.wide r.s_bound r.s_nonzero r.less_bound).few

pub overflow_shr-s : goal.overflow_shr-s
overflow_shr-s c =
    let a = c.args in
    let r = c.requires in
    (worked_out a.w.bits a.s a.less a.w.wide r.s_bound r.s_nonzero r.less_bound).few

pub difference-requires : goal.difference-requires
difference-requires c =
    let a = c.args in
    let r = c.requires in
    rw (full a.w.wide) (worked_out a.w.bits a.s a.less a.w.wide r.s_bound r.s_nonzero r.less_bound).close

pub returns : goal.returns
returns c =
    let a = c.args in
    let r = c.requires in
    let k = count_trailing_zeros 32 ((a.s + 1) / 2 - a.less) in
    let d = c.difference.ensures ∙ ap (λ t. pos (((a.s + 1) / 2 - a.less) / 2 ^ k) -ℤ pos ((a.s - a.s % t) / 2 ^ k)) (full a.w.wide) in
    (worked_out a.w.bits a.s a.less a.w.wide r.s_bound r.s_nonzero r.less_bound).is _ (to_z-of_z {w = w8} (sfits_of c.difference.type_inv) ∙ d)

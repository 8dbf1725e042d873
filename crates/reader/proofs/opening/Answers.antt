-- `reader::opening` meets its contract: the two leading bits of the window tell whether it opens, and then it is looked up. Assumes nothing.
use mathlib.Core.Path.{◌≡◌, refl, ◌∙◌}
use mathlib.Core.Logic.{◌≢◌}
use mathlib.Core.Bool.{true}
use Prim.Native.Nat.{ℕ, suc, ◌-◌}
use native.Mathlib.Omega.{arith}
use borrow.Author.Rules.{rules}
use mir.Syntax.{w8}
use mir.Val.{to_z, of_z}
use Rattle.laws.specs.Deciding.{Decides}
use Rattle.meaning.specs.Scalars.{number, bit, below}
use Rattle.meaning.specs.Windows.{window_bits}
use Rattle.meaning.specs.Wmof.{window_at}
use Rattle.scalar.specs.Orders.{ordered}
use Rattle.windows.specs.Openings.{Opens}
use Rattle.windows.proofs.Opened.{opened_at, bits_same, bits_differ, looked, puts}
use Rattle.reader.proofs.Takes.{opened_none, opened_some}
use Rattle.reader.proofs.opening.Goals.{After-opens}
use Rattle.reader.proofs.opening.Goals as goal

module _ (c : After-opens) where
  abbrev w : ℕ
  w = c.args.w.bits

  abbrev N : ℕ
  N = number (ordered c.args.order) c.args.scalar.now

  abbrev i : ℕ
  i = c.args.place - 1

  -- the bits are those of the window over place i
  seen : c.window-bits.result ≡ window_bits w N i
  seen = rw c.bits-width.ensures at c.window-bits.ensures

  -- whether its two leading bits are different
  tells : Decides c.opens.result (Opens w c.window-bits.result)
  tells = rw c.bits-width.ensures at c.opens.ensures

  -- as they are where it opens
  differ : c.opens.result ≡ true → bit N i ≢ below N i
  differ = bits_differ w N i c.window-bits.result (omega arith) seen c.opens.result tells

pub placed-found-requires : goal.placed-found-requires
placed-found-requires c =
    let o = (goal.at.placed-found-requires c).After-opens in
    let d = differ o c.if-opens.true in
    let found = looked (w o) (N o) (i o) c.window-bits.result (omega arith) (seen o) d c.look_up.ensures in
    let over = (opened_at (w o) (N o) (i o) (omega arith) d).over in
    rw c.bits-width.ensures (omega arith, omega arith, omega (arith, found.twos_is))

pub returns-then-opens : goal.returns-then-opens
returns-then-opens c =
    let o = (goal.at.returns-then-opens c).After-opens in
    let d = differ o c.if-opens.true in
    let found = looked (w o) (N o) (i o) c.window-bits.result (omega arith) (seen o) d c.look_up.ensures in
    let above : suc (i o) ≡ c.args.place = omega (arith, c.requires) in
    let P = puts (i o) (window_at (w o) (N o) (i o)) above found (rw c.bits-width.ensures at c.placed-found.ensures) in
    let unit : to_z w8 (of_z w8 c.placed-found.result.unit) ≡ c.placed-found.result.unit = search rules in
    opened_some (w o) (N o) (i o) c.pass.ensures d (unit ∙ P.unit_is) P.spot_is P.left_is

pub returns : goal.returns
returns c =
    let o = (goal.at.returns c).After-opens in
    let same = bits_same (w o) (N o) (i o) c.window-bits.result (omega arith) (seen o) c.opens.result (tells o) c.if-opens.false in
    opened_none (w o) (N o) (i o) c.pass-2.ensures same refl

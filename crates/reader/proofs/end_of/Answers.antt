-- `reader::end_of` meets its contract: the two leading bits of the window tell whether it opens. Assumes nothing.
use mathlib.Core.Path.{◌≡◌, refl, ap}
use Prim.Native.Nat.{ℕ, suc, ◌-◌}
use native.Mathlib.Omega.{arith}
use Rattle.laws.specs.Deciding.{Decides}
use Rattle.meaning.specs.Scalars.{number}
use Rattle.meaning.specs.Windows.{window_bits}
use Rattle.scalar.specs.Orders.{ordered}
use Rattle.windows.specs.Openings.{Opens}
use Rattle.windows.proofs.Opened.{bits_same, bits_differ}
use Rattle.reader.proofs.Takes.{opened_none, opened_some}
use Rattle.reader.proofs.end_of.Goals.{After-opens}
use Rattle.reader.proofs.end_of.Goals as goal

module _ (c : After-opens) where
  abbrev w : ℕ
  w = c.args.w.bits

  abbrev N : ℕ
  N = number (ordered c.args.order) c.args.scalar.now

  abbrev i : ℕ
  i = c.args.place - 1

  -- the bits are those of the window over place i
  seen : c.window-bits.result ≡ window_bits w N i
  seen = rw c.bits-width.ensures at c.window-bits.ensures

  -- whether its two leading bits are different
  tells : Decides c.opens.result (Opens w c.window-bits.result)
  tells = rw c.bits-width.ensures at c.opens.ensures

pub returns-then-opens : goal.returns-then-opens
returns-then-opens c =
    let o = (goal.at.returns-then-opens c).After-opens in
    let d = bits_differ (w o) (N o) (i o) c.window-bits.result (omega arith) (seen o) c.opens.result (tells o) c.if-opens.true in
    let e : c.saturating_sub.result ≡ suc (i o) - w o = omega (arith, c.saturating_sub.ensures, c.bits-width.ensures, c.requires) in
    ap (λ t. t.floor) (opened_some (w o) (N o) (i o) refl d refl refl e)

pub returns : goal.returns
returns c =
    let o = (goal.at.returns c).After-opens in
    let same = bits_same (w o) (N o) (i o) c.window-bits.result (omega arith) (seen o) c.opens.result (tells o) c.if-opens.false in
    ap (λ t. t.floor) (opened_none (w o) (N o) (i o) refl same refl)

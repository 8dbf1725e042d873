-- The part lies in its string, and is of the one that was picked.
use Rattle.std.proofs.Common.{sym, ap, length, length-take-le, arith}
use Rattle.meaning.specs.Lighter.{one_of}
use Rattle.lighter.specs.Answers.{numbered}
use Rattle.lighter.proofs.Picks.{pick_fits}
use Rattle.lighter.proofs.lighter.Goals as goal

pub slice_bounds-result-end : goal.slice_bounds-result-end
slice_bounds-result-end c =
    let a = c.args in
    let within = pick_fits c.in-Ok.ensures in
    sym (length-take-le _ _ (omega (arith, within, c.from-places.ensures, ap (λ i. length (one_of (numbered i) a.first.now a.second.now)) c.in-First.is)))

pub slice_bounds-result-end-in-Second : goal.slice_bounds-result-end-in-Second
slice_bounds-result-end-in-Second c =
    let a = c.args in
    let within = pick_fits c.in-Ok.ensures in
    sym (length-take-le _ _ (omega (arith, within, c.from-places.ensures, ap (λ i. length (one_of (numbered i) a.first.now a.second.now)) c.in-Second.is)))

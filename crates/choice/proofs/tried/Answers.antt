-- `choice::tried` meets its contract: w is not allowed, or totals no less, or is the best. Assumes nothing.
use Rattle.std.proofs.Common.{arith}
use Rattle.choice.proofs.Totals.{totals_same}
use Rattle.choice.proofs.Tries.{best_stays, best_new}
use Rattle.choice.proofs.tried.Goals as goal

pub returns-then-entries-multiples : goal.returns-then-entries-multiples
returns-then-entries-multiples c = best_stays c.requires.best (λ u a f. absurd (omega (arith, a.fit, c.multiples.ensures, c.if-entries-multiples.true)))

pub returns-then-best-total : goal.returns-then-best-total
returns-then-best-total c = best_stays c.requires.best (λ u a f. omega (arith, c.if-best-total.true, totals_same c.args.w.wide.0 c.total-total.ensures f))

pub returns : goal.returns
returns c =
    best_new c.requires.best (record { least = c.args.w.wide.0; most = c.args.w.wide.1; fit = omega (arith, c.if-entries-multiples.false, c.multiples.ensures) }) c.total-total.ensures
    (omega (arith, c.if-best-total.false))

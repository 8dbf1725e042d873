use Rattle.std.proofs.Common.{ℕ, ◌≡◌, ◌≤◌, ◌<◌, ◌+◌, ◌-◌, ◌^◌, suc, min, subst, sym, ap, ◌∙◌, arith}
use Rattle.std.proofs.Math.Pow.{pow_pos, pow_mono}
use Rattle.meaning.specs.Searching.{search_places}
use Rattle.width.proofs.Widths.{digits_whole}
use Rattle.search.specs.Least.{most_number}
use Rattle.search.proofs.Order.{left_most}
use Rattle.search.proofs.Lightest.{lightest_of, least_empty, least_none}
use Rattle.search.proofs.Tried.{Tried, tried_odd, tried_even, tried_all}
use Rattle.search.proofs.+least.Goals as goal
use Rattle.search.proofs.+least.Goals.{then-left-eq0, else-left-eq0}

-- how many digits a whole width has, and that they are few
few : (w n d : ℕ) → w ≤ 8 → n ≡ d → d ≡ 2 ^ (w - 1) + 1 → n ≤ most_number + 2
few w n d h e f = omega (arith, pow_mono {i = w - 1} {j = 7} (omega arith))

pub returns-then-size-eq0 : goal.returns-then-size-eq0
returns-then-size-eq0 t c = least_empty _ c.if-places-eq0.true c.if-size-eq0.true

pub returns-else-size-eq0 : goal.returns-else-size-eq0
returns-else-size-eq0 t c = least_none _ c.if-places-eq0.true c.if-size-eq0.false

pub least-above-requires : goal.least-above-requires
least-above-requires t c =
    let h = few _ _ _ c.requires.whole.0.1 c.digits-i-end.ensures.size (digits_whole c.args.width c.requires.whole) in
    let q = left_most c.args.size c.loop-i.i in
    (omega arith, (c.requires.whole, (omega arith, omega (arith, c.left_over-left.ensures))))

pub overflow_add-above : goal.overflow_add-above
overflow_add-above t c =
    let short : c.args.places - 1 ≤ search_places = omega arith in
    omega (arith, (lightest_of short c.least-above.ensures).most, c.min.ensures)

pub loop-i-preserved : goal.loop-i-preserved
loop-i-preserved t c =
    let a = c.args in
    let l = c.loop-i in
    let left = c.left_over-left.ensures in
    let next : a.places ≡ suc (a.places - 1) = omega arith in
    let fits : l.i < 2 ^ (a.width.bits - 1) + 1 = omega (arith, c.digits-i-end.ensures.size, digits_whole a.width c.requires.whole) in
    elim c.if-left-eq0.branch [
      | then-left-eq0 w ↦
          subst (Tried a.width.bits a.places a.size (l.i + 1)) (sym (w.best-is ∙ w.min-best.ensures ∙ ap (λ n. min l.best (w.least-above.result + n)) w.min.ensures))
          (tried_even _ _ (omega arith) next l.i _ left c.requires.whole.0 fits w.if-left-eq0.true l.invariant w.least-above.ensures)
      | else-left-eq0 w ↦
          subst (Tried a.width.bits a.places a.size (l.i + 1)) (sym w.best-is)
          (tried_odd _ _ (omega arith) next l.i _ left w.if-left-eq0.false l.invariant)
    ]

pub returns : goal.returns
returns t c =
    let a = c.args in
    let next : a.places ≡ suc (a.places - 1) = omega arith in
    let digits = digits_whole a.width c.requires.whole in
    tried_all _ _ (omega arith) next (omega (arith, c.digits-i-end.ensures.size, pow_pos (a.width.bits - 1))) c.loop-i.invariant

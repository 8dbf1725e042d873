-- What lies before the next place that is not 0 is 0.
use Rattle.std.proofs.Common.{◌≡◌, ℕ, ◌+◌, ◌-◌, ◌<◌, pos, length, get_or, take, drop, rules, arith, subst, ap, ◌∙◌}
use Rattle.std.proofs.lemmas.List.{length-drop}
use Rattle.laws.proofs.Parts.{part_lent}
use Rattle.frames.proofs.Clearing.{cleared_next, cleared_all}
use Rattle.frames.proofs.reading.clear.Goals as goal

pub loop-next-preserved : goal.loop-next-preserved
loop-next-preserved c =
    let d = c.loop-next.digits in
    let at = c.loop-next.at in
    let n = c.in-Some.next in
    let part = take (length d - at) (drop at d) in
    let before : (k : ℕ) → k < n → get_or part k (pos 0) ≡ pos 0 = search rules in
    let within : at + n < length d = search rules in
    let next = cleared_next _ d at c.loop-next.invariant.1 n (λ k h. subst (λ l. get_or l k (pos 0) ≡ pos 0) (part_lent d at) (before k h)) within in
    search rules

pub returns : goal.returns
returns c =
    let d = c.loop-next.digits in
    let at = c.loop-next.at in
    let part = take (length d - at) (drop at d) in
    let none : (k : ℕ) → k < length part → get_or part k (pos 0) ≡ pos 0 = search rules in
    let size : length part ≡ length d - at = ap length (part_lent d at) ∙ length-drop at d in
    cleared_all _ d at c.loop-next.invariant.1 (λ k h. subst (λ l. get_or l k (pos 0) ≡ pos 0) (part_lent d at) (none k (omega (arith, size))))

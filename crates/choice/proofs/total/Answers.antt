-- `choice::total` meets its contract: the counts are those of the wNAF. Assumes nothing.
use Rattle.std.proofs.Common.{◌≡◌, ◌+◌, ◌^◌, ◌<◌, ◌≤◌, List, ℤ, arith}
use Rattle.meaning.specs.Scalars.{number, bit_count}
use Rattle.meaning.specs.Digits.{largest, weight, top}
use Rattle.meaning.specs.Multiples.{cost_of}
use Rattle.meaning.specs.Choosing.{multiples_at}
use Rattle.forms.specs.Fractional.{fractional_from}
use Rattle.scalar.specs.Orders.{ordered}
use Rattle.scalar.proofs.Bytes.{number_lt}
use Rattle.choice.proofs.Totals.{cost_few, few_counts, totals_by}
use Rattle.choice.proofs.total.Goals.{After-count-counts, After-cost}
use Rattle.choice.proofs.total.Goals as goal

-- the string that is counted
module _ (k : After-count-counts) where
  abbrev string : List ℤ
  string = fractional_from k.args.w.bits (largest k.args.w.bits) (bit_count k.args.s.now + 1) (number (ordered k.args.order) k.args.s.now)

  weighed : k.count-counts.result.weight ≡ weight string
  weighed = rw (k.whole.ensures.0, k.whole.ensures.1) at k.count-counts.ensures.weight_value

  topped : k.count-counts.result.top ≡ top string
  topped = rw (k.whole.ensures.0, k.whole.ensures.1) at k.count-counts.ensures.top_value

  small : number (ordered k.args.order) k.args.s.now < 2 ^ bit_count k.args.s.now
  small = number_lt (ordered k.args.order) k.args.s.now (λ i. (k.type_inv.s i).fits)

  few : (top string ≤ 529) × (weight string ≤ 529)
  few =
      let (t, l) = few_counts k.args.w.bits (number (ordered k.args.order) k.args.s.now) (bit_count k.args.s.now) k.args.w.wide small in
      (omega (arith, t, k.requires), omega (arith, l, k.requires))

pub overflow_add-result : goal.overflow_add-result
overflow_add-result c = let k = (goal.at.overflow_add-result c).After-count-counts in omega (arith, weighed k, topped k, few k)

-- what the multiples cost
module _ (c : After-cost) where
  costed : c.cost.result ≡ (cost_of (multiples_at c.args.w.bits)).doublings + (cost_of (multiples_at c.args.w.bits)).additions
  costed = rw c.multiples.ensures at c.cost.ensures

  whole : c.saturating_sub-doublings.result + c.saturating_sub-additions.result + c.cost.result ≤ 1200
  whole = let k = (goal.at.returns c).After-count-counts in omega (arith, weighed k, topped k, few k, costed, cost_few c.args.w.bits c.args.w.wide.1)

pub overflow_add-result-2 : goal.overflow_add-result-2
overflow_add-result-2 c = omega (arith, whole c)

pub overflow_cast-result-2 : goal.overflow_cast-result-2
overflow_cast-result-2 c = omega (arith, whole c)

pub returns : goal.returns
returns c =
    let k = (goal.at.returns c).After-count-counts in
    totals_by c.args.w.bits (number (ordered c.args.order) c.args.s.now) (bit_count c.args.s.now) c.args.w.wide (small k)
    (omega (arith, c.saturating_sub-doublings.ensures, c.saturating_sub-additions.ensures, weighed k, topped k, costed c))

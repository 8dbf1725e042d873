-- The digits that are left make up what is counted.
use Rattle.std.proofs.Common.{◌≡◌, ◌+◌, ◌-◌, ◌≤◌, length}
use Rattle.meaning.specs.Scalars.{number, bit_count}
use Rattle.meaning.specs.Digits.{most_places, weight, top}
use Rattle.scalar.specs.Orders.{ordered}
use Rattle.forms.specs.Fractional.{fractional_from}
use Rattle.wnaf.specs.Coming.{digits_left}
use Rattle.wnaf.proofs.Strings.{topped}
use Rattle.wnaf.proofs.count.Given as goal

abbrev pub invariant-loop-string : goal.invariant-loop-string
invariant-loop-string l =
    let string = fractional_from l.fn.set.w.bits l.fn.set.largest (bit_count l.fn.s + 1) (number (ordered l.fn.order) l.fn.s) in
    record {
      weight_is : l.weight + length (digits_left l.string) ≡ weight string;
      top_is : topped l.top (digits_left l.string) ≡ top string;
      used : l.string.end ≤ l.string.place;
    }

abbrev pub decreases-loop-string : goal.decreases-loop-string
decreases-loop-string l = most_places - l.string.end

abbrev pub invariant-loop-place : goal.invariant-loop-place
invariant-loop-place l =
    let string = fractional_from l.fn.set.w.bits l.fn.set.largest (bit_count l.fn.s + 1) (number (ordered l.fn.order) l.fn.s) in
    record {
      weight_is : l.weight + length (digits_left l.string) ≡ weight string;
      top_is : topped l.top (digits_left l.string) ≡ top string;
      end_same : l.string.end ≡ l.initial.string.end;
    }

abbrev pub decreases-loop-place : goal.decreases-loop-place
decreases-loop-place l = length (digits_left l.string)

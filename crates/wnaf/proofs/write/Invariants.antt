-- The lower digits of the string stand, the others are left, and the top is that of those that stand.
use Rattle.std.proofs.Common.{◌≡◌, ◌+◌, ◌-◌, ◌≤◌, length}
use Rattle.meaning.specs.Scalars.{number, bit_count}
use Rattle.meaning.specs.Digits.{most_places, top}
use Rattle.meaning.specs.Recoding.{marks_of}
use Rattle.scalar.specs.Orders.{ordered}
use Rattle.forms.specs.Fractional.{fractional_from}
use Rattle.wnaf.specs.Coming.{digits_left}
use Rattle.wnaf.proofs.Strings.{Partly, topped}
use Rattle.wnaf.proofs.write.Given as goal

abbrev pub invariant-loop-string : goal.invariant-loop-string
invariant-loop-string l =
    let string = fractional_from l.fn.set.w.bits l.fn.set.largest (bit_count l.fn.s + 1) (number (ordered l.fn.order) l.fn.s) in
    record {
      partly : Partly string l.digits (digits_left l.string);
      top_is : topped l.top (digits_left l.string) ≡ top string;
      marked : l.marks ≡ marks_of l.digits;
      used : l.string.end ≤ l.string.place;
    }

abbrev pub decreases-loop-string : goal.decreases-loop-string
decreases-loop-string l = most_places - l.string.end

abbrev pub invariant-loop-place : goal.invariant-loop-place
invariant-loop-place l =
    let string = fractional_from l.fn.set.w.bits l.fn.set.largest (bit_count l.fn.s + 1) (number (ordered l.fn.order) l.fn.s) in
    record {
      partly : Partly string l.digits (digits_left l.string);
      top_is : topped l.top (digits_left l.string) ≡ top string;
      marked : l.marks ≡ marks_of l.digits;
      end_same : l.string.end ≡ l.initial.string.end;
    }

abbrev pub decreases-loop-place : goal.decreases-loop-place
decreases-loop-place l = length (digits_left l.string)

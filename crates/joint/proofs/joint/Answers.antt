-- What the tests found; the words that are needed are few; and what is answered.
use Rattle.std.proofs.Common.{◌≡◌, ◌+◌, ◌-◌, ◌≤◌, List, length, ap, refl, arith}
use lib.IntN.{ℤ}
use Rattle.refusals.specs.Coded.{coded}
use Rattle.meaning.specs.Scalars.{number, bit_count}
use Rattle.meaning.specs.Words.{most_words}
use Rattle.meaning.specs.Taping.{tape_of}
use Rattle.meaning.specs.Joining.{Buffers}
use Rattle.scalar.specs.Orders.{ordered}
use Rattle.joint.specs.Places.{columns_in}
use Rattle.joint.proofs.Refusals.{Judged, not_long, not_few, refuses, needed_is, needed_few, overlong, writable, accepts}
use Rattle.joint.proofs.joint.Goals.{After-weigh-count}
use Rattle.joint.proofs.joint.Goals as goal

-- the buffers as lent
abbrev lent : After-weigh-count → Buffers
lent c = record { first = c.args.first.now; second = c.args.second.now; words = c.args.tape.now }

judged : (c : After-weigh-count) → Judged c.args.a.now c.args.b.now (lent c)
judged c =
    record {
      short = c.if-a-gt-MOST_BYTES.false;
      other_short = c.if-b-gt-MOST_BYTES.false;
      equal = c.if-a-b.false;
      places = c.if-first-places.false;
      others = c.if-second-places.false;
      bytes = λ i. (c.type_inv.a i).fits;
      other_bytes = λ i. (c.type_inv.b i).fits;
    }

-- the columns
abbrev columns : After-weigh-count → List ℤ
columns c = columns_in (number (ordered c.args.order) c.args.a.now) (number (ordered c.args.order) c.args.b.now) (bit_count c.args.a.now)

-- the words that are needed, and that they are few
asked : (c : After-weigh-count) → (c.weigh-count.result.top - 1) + c.weigh-count.result.weight ≡ length (tape_of (columns c))
asked c = needed_is (ordered c.args.order) c.args.a.now c.args.b.now (lent c) (judged c) c.weigh-count.result c.weigh-count.ensures

few : (c : After-weigh-count) → length (tape_of (columns c)) ≤ most_words
few c = needed_few (ordered c.args.order) c.args.a.now c.args.b.now (lent c) (judged c) c.weigh-count.result c.weigh-count.ensures

pub overflow_add-needed : goal.overflow_add-needed
overflow_add-needed c =
    let k = (goal.at.overflow_add-needed c).After-weigh-count in
    record { fits = omega (arith, c.saturating_sub-doublings.ensures, asked k, few k) }

pub returns-then-tape-needed : goal.returns-then-tape-needed
returns-then-tape-needed c =
    let k = (goal.at.returns-then-tape-needed c).After-weigh-count in
    let J = judged k in
    let a = c.args in
    let long = overlong (ordered a.order) a.a.now a.b.now (lent k) J c.weigh-count.result c.weigh-count.ensures (omega (arith, c.saturating_sub-doublings.ensures, asked k, c.if-tape-needed.true)) in
    refuses (ordered a.order) a.a.now a.b.now (lent k) 3 c.into-then-tape-needed.result (ap coded c.into-then-tape-needed.ensures.0) c.into-then-tape-needed.ensures.1
    (not_long J.short J.other_short, ((λ n. n J.equal), (not_few J, (long, refl))))

pub write-requires-clause-room : goal.write-requires-clause-room
write-requires-clause-room c =
    let k = (goal.at.write-requires-clause-room c).After-weigh-count in
    let a = c.args in
    writable (ordered a.order) a.a.now a.b.now (lent k) (judged k) c.weigh-count.result c.weigh-count.ensures (omega (arith, c.saturating_sub-doublings.ensures, asked k, c.if-tape-needed.false))

pub overflow_cast-result : goal.overflow_cast-result
overflow_cast-result c = let k = (goal.at.overflow_cast-result c).After-weigh-count in record { fits = omega (arith, asked k, few k) }

pub overflow_cast-result-2 : goal.overflow_cast-result-2
overflow_cast-result-2 c = let k = (goal.at.overflow_cast-result-2 c).After-weigh-count in record { fits = omega (arith, asked k, few k) }

pub overflow_cast-result-3 : goal.overflow_cast-result-3
overflow_cast-result-3 c = let k = (goal.at.overflow_cast-result-3 c).After-weigh-count in record { fits = omega (arith, c.saturating_sub-doublings.ensures, asked k, few k) }

pub overflow_cast-result-4 : goal.overflow_cast-result-4
overflow_cast-result-4 c = let k = (goal.at.overflow_cast-result-4 c).After-weigh-count in record { fits = omega (arith, c.saturating_sub-doublings.ensures, asked k, few k) }

pub overflow_cast-result-5 : goal.overflow_cast-result-5
overflow_cast-result-5 c = let k = (goal.at.overflow_cast-result-5 c).After-weigh-count in record { fits = omega (arith, c.saturating_sub.ensures, asked k, few k) }

pub returns : goal.returns
returns c =
    let k = (goal.at.returns c).After-weigh-count in
    let a = c.args in
    let n : c.saturating_sub-doublings.result + c.weigh-count.result.weight ≡ length (tape_of (columns k)) = omega (arith, c.saturating_sub-doublings.ensures, asked k) in
    accepts (ordered a.order) a.a.now a.b.now (lent k) (judged k) c.weigh-count.result c.weigh-count.ensures (omega (arith, n, c.if-tape-needed.false)) c.write.ensures n c.saturating_sub-doublings.ensures c.saturating_sub.ensures

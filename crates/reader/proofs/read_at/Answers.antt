-- `reader::read_at` meets its contract: what the window over the places to come holds is read there, or passed at once. Assumes nothing.
use mathlib.Core.Path.{◌≡◌, sym, ap, subst, ◌∙◌}
use mathlib.Core.List.{List}
use Prim.Native.Nat.{ℕ, ◌+◌, ◌-◌, ◌≤◌}
use native.Mathlib.Omega.{arith}
use borrow.Author.Rules.{rules}
use mir.Syntax.{w8}
use mir.Val.{to_z, of_z}
use lib.IntN.{pos}
use Rattle.std.specs.Prelude.{Some}
use Rattle.meaning.specs.Scalars.{Order, number}
use Rattle.meaning.specs.Reading.{Read, sequence, read_at}
use Rattle.scalar.specs.Orders.{ordered}
use Rattle.reader.specs.States.{opened, call, After}
use Rattle.reader.specs.Calls.{read_of}
use Rattle.reader.proofs.Bounds.{starts_few}
use Rattle.reader.proofs.Takes.{Passes, opened_passes, takes_opened}
use Rattle.reader.proofs.Starts.{bad_refused}
use Rattle.reader.proofs.Calls.{after_order, after_start, after_done, inside_reads, window_passed, refused_reads}
use Rattle.reader.proofs.read_at.Invariants.{between, Between}
use Rattle.reader.proofs.read_at.Goals.{At-loop-place, After-end_of-end}
use Rattle.reader.proofs.read_at.Goals as goal

-- ---- no width
pub returns-in_default : goal.returns-in_default
returns-in_default c =
    let a = c.args in
    let A = c.start-state.ensures in
    record { holds = A.holds; gives = refused_reads c.start-state.result.refusal a.width _ a.scalar.now a.calls (bad_refused a.width a.scalar.now A.holds c.in_default.ensures) }

-- ---- a width
pub loop-place-init : goal.loop-place-init
loop-place-init c =
    let a = c.args in
    let q = c.start-state.result in
    let A = c.start-state.ensures in
    let none : 0 ≡ a.calls - c.from-left.result = omega (arith, c.from-left.ensures) in
    record {
      pending = pos 0;
      spot = 0;
      code = q.order;
      tells = after_order A;
      after = subst (λ k. After a.width (ordered a.order) a.scalar.now k (between a.width (pos 0) 0 q.refusal q.order q.place)) none (after_start A);
      few = (starts_few A).place_le;
      within = omega (arith, c.from-left.ensures);
    }

-- what is read in the end
reads : (c : At-loop-place) {x : Read} → let a = c.args in let r = c.start-state.result.refusal in
    x ≡ read_at (sequence r a.width (ordered a.order) a.scalar.now) (a.calls - c.loop-place.left + c.loop-place.left)
    → x ≡ read_at (sequence r a.width (ordered a.order) a.scalar.now) a.calls
reads c e =
    let a = c.args in
    let n : a.calls - c.loop-place.left + c.loop-place.left ≡ a.calls = omega (arith, c.loop-place.invariant.within) in
    e ∙ ap (λ k. read_at (sequence c.start-state.result.refusal a.width (ordered a.order) a.scalar.now) k) n

-- ---- the window over the places to come
module _ (c : After-end_of-end) where
  abbrev width : ℕ
  width = c.args.width

  abbrev bytes : List ℕ
  bytes = c.args.scalar.now

  abbrev o : Order
  o = ordered c.args.order

  abbrev place : ℕ
  place = c.loop-place.place

  abbrev inv : Between width o bytes c.args.calls c.start-state.result.refusal place c.loop-place.left
  inv = c.loop-place.invariant

  passes : Passes (place - 1) (opened width (number o bytes) (place - 1))
  passes = opened_passes width (number o bytes) (place - 1) c.in-Some.ensures.2

  ends : c.end_of-end.result ≡ (opened width (number o bytes) (place - 1)).floor
  ends = rw c.in-Some.ensures.0 at c.end_of-end.ensures

  below : c.end_of-end.result ≤ place - 1
  below = omega (arith, ends, passes.floor_le)

  taken : opened width (number o bytes) (place - 1) ≡ call bytes (between width inv.pending inv.spot c.start-state.result.refusal inv.code place)
  taken =
      ap (λ p. opened width (number p bytes) (place - 1)) (sym inv.tells)
      ∙ takes_opened _ bytes place width inv.pending inv.spot place (omega arith) c.loop-place-test.true inv.few c.in-Some.ensures.2

pub overflow_sub-count : goal.overflow_sub-count
overflow_sub-count c = omega (arith, below c)

pub returns-then-left-count : goal.returns-then-left-count
returns-then-left-count c =
    let e = (goal.at.returns-then-left-count c).After-end_of-end in
    let l = (goal.at.returns-then-left-count c).At-loop-place in
    let i = rw c.in-Some.ensures.0 at c.inside.ensures in
    let d : to_z w8 (of_z w8 c.inside.result) ≡ c.inside.result = search rules in
    record {
      holds = (inv e).after.holds;
      gives = rw d (reads l (ap (λ d. read_of (Some d)) i ∙ inside_reads (inv e).after (taken e) (passes e) c.loop-place.left (omega (arith, ends e, c.if-left-count.true))));
    }

pub loop-place-smaller : goal.loop-place-smaller
loop-place-smaller c = omega (arith, below (goal.at.loop-place-smaller c).After-end_of-end)

pub loop-place-preserved : goal.loop-place-preserved
loop-place-preserved c =
    let e = (goal.at.loop-place-preserved c).After-end_of-end in
    let t = opened (width e) (number (o e) (bytes e)) (place e - 1) in
    let state = λ (f : ℕ). between (width e) t.pending t.spot c.start-state.result.refusal (inv e).code f in
    let A = window_passed (inv e).after (taken e) (passes e) c.loop-place-test.true in
    let n : c.args.calls - c.loop-place.left + (place e - t.floor) ≡ c.args.calls - (c.loop-place.left - (place e - c.end_of-end.result)) = omega (arith, ends e, c.if-left-count.false, (inv e).within) in
    record {
      pending = t.pending;
      spot = t.spot;
      code = (inv e).code;
      tells = (inv e).tells;
      after = subst (λ k. After (width e) (o e) (bytes e) k (state c.end_of-end.result)) n (subst (λ f. After (width e) (o e) (bytes e) (c.args.calls - c.loop-place.left + (place e - t.floor)) (state f)) (sym (ends e)) A);
      few = omega (arith, below e);
      within = omega arith;
    }

-- ---- no place to come
pub returns : goal.returns
returns c =
    let l = (goal.at.returns c).At-loop-place in
    let A = c.loop-place.invariant.after in
    record { holds = A.holds; gives = reads l (sym (after_done c.loop-place.left A (omega (arith, c.loop-place-test.false)))) }

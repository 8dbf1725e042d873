-- Any number of calls of a reader made from any input: the call after k others gives what document 01's sequence has at k, done for ever past its end, and in
-- a refusal at once. `answer_at` says it of `new` and `next` by their promises alone. Assumes nothing.
use mathlib.Core.Path.{◌≡◌, refl, sym, ap, subst, ◌∙◌}
use mathlib.Core.Logic.{◌≢◌}
use mathlib.Core.List.{List, [], ◌∷◌}
use Prim.Native.Nat.{ℕ, zero, suc, ◌+◌, ◌-◌, ◌≤◌, ◌<◌}
use native.Mathlib.Nat.{add-zero, add-suc, sub-zero}
use native.Mathlib.Omega.{arith}
use borrow.Author.Rules.{rules}
use denote.Ref.{Bor}
use lib.IntN.{ℤ, pos}
use lib.ListN.{length}
use Rattle.meaning.specs.Scalars.{Order, code_of, order_of}
use Rattle.meaning.specs.Reading.{Holds, sequence, digit, done, read_at}
use Rattle.forms.proofs.Refusals.{kept_lent}
use Rattle.scalar.proofs.Orders.{code_tells}
use Rattle.std.specs.Prelude.{Option, Some, None, OnSome, IfNone, ⊤}
use Rattle.std.specs.Iterator.{at_most, MakesProgress}
use Rattle.reader.specs.declared.Reader.{Reader}
use Rattle.reader.specs.declared.State.{State}
use Rattle.reader.specs.declared.Taken.{Taken}
use Rattle.reader.specs.States.{digit_at, starting, call, moved, after, After}
use Rattle.reader.specs.Calls.{read_of, Made, Called}
use Rattle.reader.proofs.Starts.{held_wide, held_short}
use Rattle.reader.proofs.Takes.{Passes, takes_inside, takes_none, takes_falls}
use Rattle.reader.proofs.Stands.{given, given_done, reads_all}

-- ---- document 01's sequence
-- past its end there is nothing
pub read_past : (ds : List ℤ) (k : ℕ) → length ds ≤ k → read_at ds k ≡ done
unfolding read_at
read_past [] k h = refl
read_past (d ∷ ds) zero h = absurd (omega arith)
read_past (d ∷ ds) (suc k) h = read_past ds k (omega arith)

-- in a refusal there is nothing at all
pub refused_reads : (r w : ℕ) (o : Order) (s : List ℕ) (k : ℕ) → r ≢ 0 → done ≡ read_at (sequence r w o s) k
unfolding read_at
refused_reads zero w o s k n = absurd (n refl)
refused_reads (suc r) w o s k n = refl

-- ---- states
reads_at : (r w : ℕ) (o : Order) (s : List ℕ) → Holds w s r → (k : ℕ) → given s (starting r w o s) k ≡ read_at (sequence r w o s) k
unfolding read_at
reads_at zero w o s h k = reads_all w (code_of o) s (held_wide w s h) (held_short w s h) k ∙ ap (λ p. read_at (sequence 0 w p s) k) (code_tells o)
reads_at (suc r) w o s h k = given_done s (starting (suc r) w o s) refl k

-- a state m places lower
abbrev lowered : State → (m : ℕ) → State
lowered q m = record { place = q.place - m; width = q.width; pending = q.pending; spot = q.spot; floor = q.floor; refusal = q.refusal; order = q.order }

module _ {w : ℕ} {o : Order} {s : List ℕ} where
  -- the order that a new reader's byte tells
  pub after_order : {q : State} → After w o s 0 q → order_of q.order ≡ o
  unfolding after
  after_order A = ap (λ x. order_of x.order) A.state_is ∙ code_tells o

  -- a call more
  pub after_call : {k : ℕ} {q : State} → After w o s k q → After w o s (suc k) (moved q (call s q))
  unfolding after
  after_call A = record { holds = A.holds; state_is = ap (λ x. moved x (call s x)) A.state_is }

  -- what it gives
  pub after_reads : {k : ℕ} {q : State} → After w o s k q → read_of (call s q).next ≡ read_at (sequence q.refusal w o s) k
  after_reads {k} {q} A = ap (λ x. read_of (call s x).next) A.state_is ∙ reads_at q.refusal w o s A.holds k

  -- m calls more inside a window, which change nothing but the place
  after_lowered : {k : ℕ} {q : State} (m : ℕ) → m ≤ q.place - q.floor → After w o s k q → After w o s (k + m) (lowered q m)
  after_lowered zero h A = rw (add-zero, sub-zero) A
  after_lowered {k} {q} (suc m) h A =
      let t = takes_inside (order_of q.order) s (q.place - m) q.width q.pending q.spot q.floor (omega arith) in
      let e : q.place - m - 1 ≡ q.place - suc m = omega arith in
      rw (add-suc, ← e) (rw (← t) at (after_call (after_lowered m (omega arith) A)))

  -- with no place to come, done for ever
  pub after_done : {k : ℕ} {q : State} (j : ℕ) → After w o s k q → q.place ≡ 0 → read_at (sequence q.refusal w o s) (k + j) ≡ done
  after_done {k} {q} zero A e =
      let t = takes_none (order_of q.order) s q.place q.width q.pending q.spot q.floor (omega arith) in
      rw (add-zero) (sym (after_reads A) ∙ sym (ap (λ x. read_of x.next) t))
  after_done {k} {q} (suc j) A e =
      let t = takes_none (order_of q.order) s q.place q.width q.pending q.spot q.floor (omega arith) in
      let n : k + suc j ≡ suc k + j = omega arith in
      rw n (after_done {k = suc k} {q = moved q (call s q)} j (after_call A) (sym (ap (λ x. x.place) t)))

  -- a call that opens a window, or passes one place, where none is open
  module _ {k : ℕ} {q : State} (A : After w o s k q) {t : Taken} (e : t ≡ call s q) (P : Passes (q.place - 1) t) where
    opens : After w o s (suc k) (moved q t)
    opens = subst (λ x. After w o s (suc k) (moved q x)) (sym e) (after_call A)

    -- what is read at each of its places
    pub inside_reads : (j : ℕ) → j < q.place - t.floor → digit (digit_at (q.place - 1 - j) t.pending t.spot) ≡ read_at (sequence q.refusal w o s) (k + j)
    inside_reads zero h = rw (add-zero, sub-zero) (sym (ap read_of P.next_is) ∙ ap (λ x. read_of x.next) e ∙ after_reads A)
    inside_reads (suc j) h =
        let C = after_lowered j (omega (arith, P.place_is)) opens in
        let i = takes_inside (order_of q.order) s (t.place - j) q.width t.pending t.spot t.floor (omega (arith, P.place_is)) in
        let n : k + suc j ≡ suc k + j = omega arith in
        let p : q.place - 1 - suc j ≡ t.place - j - 1 = omega (arith, P.place_is) in
        rw (n, p) (ap (λ x. read_of x.next) i ∙ after_reads C)

    -- and the state when all are passed
    pub window_passed : 0 < q.place → After w o s (k + (q.place - t.floor)) (record { place = t.floor; width = q.width; pending = t.pending; spot = t.spot; floor = t.floor; refusal = q.refusal; order = q.order })
    window_passed some =
        let m = t.place - t.floor in
        let n : suc k + m ≡ k + (q.place - t.floor) = omega (arith, P.place_is, P.floor_le) in
        let f : t.place - m ≡ t.floor = omega (arith, P.place_is, P.floor_le) in
        let C = after_lowered m (omega arith) opens in
        subst (λ x. After w o s (k + (q.place - t.floor)) (record { place = x; width = q.width; pending = t.pending; spot = t.spot; floor = t.floor; refusal = q.refusal; order = q.order })) f
        (subst (λ x. After w o s x (lowered (moved q t) m)) n C)

  -- before any call no window is open
  pub after_start : {q : State} → After w o s 0 q
      → After w o s 0 (record { place = q.place; width = w; pending = pos 0; spot = 0; floor = q.place; refusal = q.refusal; order = q.order })
  unfolding after
  after_start A = record { holds = A.holds; state_is = ap (λ x. record { place = x.place; width = w; pending = pos 0; spot = 0; floor = x.place; refusal = x.refusal; order = x.order }) A.state_is }

-- ---- readers
-- `next` keeps its promise
pub calls : (before : Reader) → let t = call before.scalar.now before.state in Called before (record { scalar = before.scalar; state = moved before.state t }) t.next
calls before = record { next_is = refl; after_is = refl; reads = λ w o k A. after_reads A; counts = λ w o k A. after_call A }

-- and each digit that it gives leaves fewer places to come
goes_on : {A P Q : Type 0} (o : Option A) → (P → Q) → OnSome o P → OnSome o Q
goes_on None f x = x
goes_on (Some a) f x = f x

holds_on : {A Q : Type 0} (o : Option A) → Q → OnSome o Q
holds_on None x = tt
holds_on (Some a) x = x

ends_on : {A Q : Type 0} (o : Option A) → Q → IfNone o Q
ends_on None x = x
ends_on (Some a) x = tt

pub goes : (before : Reader) → let t = call before.scalar.now before.state in
    MakesProgress (λ (_ : Reader). ⊤) (λ r. at_most r.state.place) before t.next (record { scalar = before.scalar; state = moved before.state t })
goes before =
    let q = before.state in
    let t = call before.scalar.now q in
    record {
      on = λ f. goes_on t.next (λ h. (tt, search rules, h)) (takes_falls (order_of q.order) before.scalar.now q.place q.width q.pending q.spot q.floor);
      keeps = holds_on t.next tt;
      rests = λ f. ends_on t.next (search rules);
    }

-- done is done
is_done : (n : Option ℤ) → read_of n ≡ done → n ≡ None
is_done (Some d) e = absurd (let z : ◌≡◌ {A = ℕ} 0 1 = cc in omega arith)
is_done None e = refl

-- a reader made by `new` from w and s, in an order, and all that `next` makes of it and gives
module _ (w : ℕ) (o : Order) (s : Bor (List ℕ)) (readers : ℕ → Reader) (answers : ℕ → Option ℤ) (made : Made w o s (readers 0)) (called : (k : ℕ) → Called (readers k) (readers (suc k)) (answers k)) where
  -- the scalar stays lent
  pub scalar_at : (k : ℕ) → (readers k).scalar ≡ s
  scalar_at zero = made.scalar_is
  scalar_at (suc k) = ap (λ r. r.scalar) (called k).after_is ∙ scalar_at k

  -- the number stays held
  pub refusal_at : (k : ℕ) → (readers k).state.refusal ≡ (readers 0).state.refusal
  refusal_at zero = refl
  refusal_at (suc k) = ap (λ r. r.state.refusal) (called k).after_is ∙ refusal_at k

  -- the reader has been called k times
  pub state_at : (k : ℕ) → After w o s.now k (readers k).state
  state_at zero = made.state_is
  state_at (suc k) = (rw (scalar_at k) at ((called k).counts w o k)) (state_at k)

  -- and the next call gives its sequence's digit at k
  pub answer_at : (k : ℕ) → read_of (answers k) ≡ read_at (sequence (readers 0).state.refusal w o s.now) k
  answer_at k = rw (refusal_at k) at ((rw (scalar_at k) at ((called k).reads w o k)) (state_at k))

  -- past the end, done
  pub done_past : (k : ℕ) → length (sequence (readers 0).state.refusal w o s.now) ≤ k → answers k ≡ None
  done_past k h = is_done (answers k) (answer_at k ∙ read_past (sequence (readers 0).state.refusal w o s.now) k h)

  -- in a refusal, done at once
  pub done_refused : (readers 0).state.refusal ≢ 0 → (k : ℕ) → answers k ≡ None
  done_refused n k =
      let e : length (sequence (readers 0).state.refusal w o s.now) ≡ 0 = ap length (kept_lent (readers 0).state.refusal (sequence 0 w o s.now) [] n) in
      done_past k (omega arith)

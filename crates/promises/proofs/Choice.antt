-- The promise of the choice: two answers that satisfy it for one input are equal; no width fits exactly where there are no entries; an accepted total is what tape and run report of that
-- width's wNAF. An answer that forgets what the multiples cost, or that takes the larger width on a tie, cannot keep it, as 7 with four entries shows. Assumes nothing.
use mathlib.Core.Path.{◌≡◌, refl, sym, ap, subst, ◌∙◌}
use mathlib.Core.Logic.{◌≢◌}
use mathlib.Core.List.{List, [], ◌∷◌}
use Prim.Native.Nat.{ℕ, zero, suc, ◌+◌, ◌-◌, ◌^◌, ◌<◌, ◌≤◌}
use native.Mathlib.Omega.{arith}
use native.Mathlib.Decide.{ℕ_discrete, dec_le}
use lib.Dec.{lit≤, lit<}
use lib.IntN.{ℤ}
use lib.ListN.{length}
use lib.Pow.{pow_mono}
use Rattle.meaning.specs.Scalars.{Order, highest_first, number, bit_count}
use Rattle.meaning.specs.Digits.{largest, entries, weight, top}
use Rattle.meaning.specs.Wnaf.{Wnaf}
use Rattle.meaning.specs.Walks.{doublings, additions}
use Rattle.meaning.specs.Multiples.{making_of, cost_doublings, cost_additions, cost_of}
use Rattle.meaning.specs.Taping.{moves, down, tape_of, Taped, Tape}
use Rattle.meaning.specs.Running.{Ran, Run}
use Rattle.meaning.specs.Choosing.{multiples_at, Allowed, total_of, Totals, Least, choose_rules, Choice, Choose}
use Rattle.forms.specs.Fractional.{fractional_digit, fractional_next, fractional_from}
use Rattle.forms.proofs.Refusals.{Until, number_at, number_some, first_only, first_at, first_none, granted_all}
use Rattle.forms.proofs.Wnaf.{wnaf_is, wnaf_same}
use Rattle.width.proofs.Widths.{entries_whole}
use Rattle.scalar.proofs.Bytes.{Bytes, number_lt}
use Rattle.choice.specs.Best.{Best}
use Rattle.choice.proofs.Totals.{total_by, totals_same}
use Rattle.choice.proofs.Tries.{best_first, best_stays, best_new, best_all}
use Rattle.promises.proofs.Exactly.{Exactly, exactly}

-- ---- determined
-- there is one width to take, and one total
pub least_same : {N n room w t v u : ℕ} → Least N n room w t → Least N n room v u → (w ≡ v) × (t ≡ u)
least_same {N} {n} {room} {w} {t} {v} {u} a b =
    let e : t ≡ u = omega (arith, a.least v u b.allowed b.totals, b.least w t a.allowed a.totals) in
    let there = subst (λ x. Totals N n v x) (sym e) b.totals in
    let here = subst (λ x. Totals N n w x) e a.totals in
    (omega (arith, a.smallest v b.allowed there, b.smallest w a.allowed here), e)

pub choose_determined : (o : Order) (s : List ℕ) (room : ℕ) (a b : Choice) → Choose o s room a → Choose o s room b → a ≡ b
choose_determined o s room a b K L = go (ℕ_discrete a.refusal 0)
  where
    one : a.refusal ≡ b.refusal
    one = (first_only (choose_rules s room) K.first L.first).0

    made : a.width ≡ b.width → a.total ≡ b.total → a ≡ b
    made e f =
        ap (λ x. record { refusal = x; width = a.width; total = a.total }) one ∙ ap (λ x. record { refusal = b.refusal; width = x; total = a.total }) e
        ∙ ap (λ x. record { refusal = b.refusal; width = b.width; total = x }) f

    go : Dec (a.refusal ≡ 0) → a ≡ b
    go (yes z) = let (e, f) = least_same (K.accepted z) (L.accepted (sym one ∙ z)) in made e f
    go (no n) =
        let p = K.refused n in
        let q = L.refused (λ e. n (one ∙ e)) in
        made (p.width_is ∙ sym q.width_is) (p.total_is ∙ sym q.total_is)

-- ---- exactly when
pub choose_exactly : (o : Order) (s : List ℕ) (room : ℕ) (a : Choice) → Choose o s room a → Exactly (choose_rules s room) a.refusal 0
choose_exactly o s room a K = exactly (choose_rules s room) tt _ _ K.first

-- no width fits exactly where there are no entries: one entry does for width 2
pub none_fits : (room : ℕ) → room ≡ 0 → (w : ℕ) → Allowed room w → ⊥
none_fits room e w a = omega (arith, a.fit, pow_mono {i = 0} {j = w - 2} (omega arith))

pub some_fits : (room : ℕ) → room ≢ 0 → Allowed room 2
some_fits room n = record { least = lit≤ tt; most = lit≤ tt; fit = omega (arith, n) }

-- ---- the total is what the calls report: of a wNAF at the chosen width the tape its counts, and a run of any tape at that width the cost
module _ {N n room w t : ℕ} (l : Least N n room w t) {ds : List ℤ} (f : Wnaf w N n ds) where
  pub total_reported : {words₀ words : List ℕ} (a : Taped) → Tape w (largest w) ds words₀ a words → a.refusal ≡ 0
      → {ws : List ℕ} {m g : ℕ} {multiples₀ multiples : List ℕ} (r : Ran) → Run w (largest w) ws m g multiples₀ r multiples → r.refusal ≡ 0
      → t ≡ (a.doublings + a.additions) + (r.cost.doublings + r.cost.additions)
  total_reported a T z r R y =
      let two = l.allowed.least in
      let count = entries_whole w two in
      let is : t ≡ total_of w ds = l.totals.is ∙ ap (total_of w) (wnaf_same w N n two l.totals.formed f) in
      let by = total_by w (two, l.allowed.most) ds f.is_in_set in
      let d = T.doublings_are ∙ granted_all a.refusal (top ds - 1) z in
      let k = T.additions_are ∙ granted_all a.refusal (weight ds - 1) z in
      let c = R.cost_doublings_are ∙ granted_all r.refusal (cost_of (entries (largest w))).doublings y ∙ ap (λ x. (cost_of x).doublings) count in
      let e = R.cost_additions_are ∙ granted_all r.refusal (cost_of (entries (largest w))).additions y ∙ ap (λ x. (cost_of x).additions) count in
      is ∙ sym by ∙ cc (d, k, c, e)

-- ---- a known case: 7 with room for four multiples. At width 2 it is 1 0 0 -1, four steps; at width 3 the same, and two for the multiples; at width 4 it is 7 itself, and the multiples
-- take four
seven : List ℕ
seven = 7 ∷ []

at_two : Totals 7 8 2 4
unfolding total_of tape_of down moves doublings additions fractional_from fractional_digit fractional_next making_of cost_doublings cost_additions
at_two = record { string = fractional_from 2 (largest 2) 9 7; formed = wnaf_is 2 7 8 (lit≤ tt) (lit< tt); is = refl }

at_three : Totals 7 8 3 6
unfolding total_of tape_of down moves doublings additions fractional_from fractional_digit fractional_next making_of cost_doublings cost_additions
at_three = record { string = fractional_from 3 (largest 3) 9 7; formed = wnaf_is 3 7 8 (lit≤ tt) (lit< tt); is = refl }

at_four : Totals 7 8 4 4
unfolding total_of tape_of down moves doublings additions fractional_from fractional_digit fractional_next making_of cost_doublings cost_additions
at_four = record { string = fractional_from 4 (largest 4) 9 7; formed = wnaf_is 4 7 8 (lit≤ tt) (lit< tt); is = refl }

four_allowed : Allowed 4 4
four_allowed = record { least = lit≤ tt; most = lit≤ tt; fit = lit≤ tt }

-- an allowed width is one of the three
totals_four : (v u : ℕ) → Allowed 4 v → Totals 7 8 v u → 4 ≤ u
totals_four v u a f = go (ℕ_discrete v 2) (ℕ_discrete v 3) (ℕ_discrete v 4)
  where
    go : Dec (v ≡ 2) → Dec (v ≡ 3) → Dec (v ≡ 4) → 4 ≤ u
    go (yes e) _ _ = omega (arith, totals_same (lit≤ tt) at_two (subst (λ x. Totals 7 8 x u) e f))
    go (no _) (yes e) _ = omega (arith, totals_same (lit≤ tt) at_three (subst (λ x. Totals 7 8 x u) e f))
    go (no _) (no _) (yes e) = omega (arith, totals_same (lit≤ tt) at_four (subst (λ x. Totals 7 8 x u) e f))
    go (no p) (no q) (no r) = absurd (omega (arith, a.least, a.fit, pow_mono {i = 3} {j = v - 2} (omega (arith, a.least))))

least_seven : Least 7 8 4 2 4
least_seven = record { allowed = some_fits 4 (λ e. omega arith); totals = at_two; least = totals_four; smallest = λ v a f. a.least }

known : (a : Choice) → Choose highest_first seven 4 a → a ≡ record { refusal = 0; width = 2; total = 4 }
unfolding seven number
known a K =
    choose_determined highest_first seven 4 a (record { refusal = 0; width = 2; total = 4 }) K
    (record { first = first_none (choose_rules seven 4) ((λ h. omega arith), ((λ h. omega arith), tt)); accepted = λ _. least_seven; refused = λ n. absurd (n refl) })

-- ---- the promise can be kept: of the widths one is the best
module _ (N n room : ℕ) (small : N < 2 ^ n) (some : room ≢ 0) where
  totals_of : (w : ℕ) → 2 ≤ w → (t : ℕ) × Totals N n w t
  totals_of w two = let ds = fractional_from w (largest w) (n + 1) N in (total_of w ds, record { string = ds; formed = wnaf_is w N n two small; is = refl })

  -- of those under 3 + k
  best_under : (k : ℕ) → k ≤ 6 → (w : ℕ) × (t : ℕ) × Best N n room (3 + k) w t
  best_under zero h = let (t, f) = totals_of 2 (lit≤ tt) in (2, t, best_first (omega (arith, some)) f)
  best_under (suc k) h =
      let (w, t, b) = best_under k (omega arith) in
      let (u, f) = totals_of (3 + k) (omega arith) in
      let e : 3 + suc k ≡ 3 + k + 1 = omega arith in
      subst (λ x. (w : ℕ) × (t : ℕ) × Best N n room x w t) (sym e) (go w t u b f (dec_le (multiples_at (3 + k)) room) (dec_le t u))
    where
      go : (w t u : ℕ) → Best N n room (3 + k) w t → Totals N n (3 + k) u → Dec (multiples_at (3 + k) ≤ room) → Dec (t ≤ u) → (w : ℕ) × (t : ℕ) × Best N n room (3 + k + 1) w t
      go w t u b f (no l) _ = (w, t, best_stays b (λ x a g. absurd (l a.fit)))
      go w t u b f (yes l) (yes m) = (w, t, best_stays b (λ x a g. omega (arith, m, totals_same (omega arith) f g)))
      go w t u b f (yes l) (no m) = (3 + k, u, best_new b (record { least = omega arith; most = omega arith; fit = l }) f (omega arith))

  least_exists : (w : ℕ) × (t : ℕ) × Least N n room w t
  least_exists = let (w, t, b) = best_under 6 (lit≤ tt) in (w, t, best_all b (lit< tt))

pub choose_kept_by : (o : Order) (s : List ℕ) → Bytes s → (room : ℕ) → (a : Choice) × Choose o s room a
choose_kept_by o s bytes room = go (dec_le (length s) 66) (ℕ_discrete room 0)
  where
    refused : (k : ℕ) → Until (choose_rules s room) k 0 → (a : Choice) × Choose o s room a
    refused k u =
        let r = number_at (choose_rules s room) k in
        (record { refusal = r; width = 0; total = 0 }, record { first = first_at (choose_rules s room) k 0 u; accepted = λ z. absurd (number_some (choose_rules s room) tt k 0 u z); refused = λ _. record { width_is = refl; total_is = refl } })

    go : Dec (length s ≤ 66) → Dec (room ≡ 0) → (a : Choice) × Choose o s room a
    go (no l) _ = refused 0 (omega arith, refl)
    go (yes l) (yes z) = refused 1 ((λ h. omega arith), (z, refl))
    go (yes l) (no n) =
        let (w, t, best) = least_exists (number o s) (bit_count s) room (number_lt o s bytes) n in
        (record { refusal = 0; width = w; total = t }, record { first = first_none (choose_rules s room) ((λ h. omega arith), (n, tt)); accepted = λ _. best; refused = λ m. absurd (m refl) })

-- ---- ruled out: an answer for every input, a scalar of bytes among it, which keeps the promise
pub record Chooser : Type 0 where
  pub call : (o : Order) (s : List ℕ) → Bytes s → (room : ℕ) → Choice
  pub keeps : (o : Order) (s : List ℕ) (b : Bytes s) (room : ℕ) → Choose o s room (call o s b room)

pub chooser : Chooser
chooser = record { call = λ o s b room. (choose_kept_by o s b room).0; keeps = λ o s b room. (choose_kept_by o s b room).1 }

seven_bytes : Bytes seven
unfolding seven
seven_bytes zero = lit< tt
seven_bytes (suc i) = lit< tt

module _ (c : Chooser) where
  is : c.call highest_first seven seven_bytes 4 ≡ record { refusal = 0; width = 2; total = 4 }
  is = known (c.call highest_first seven seven_bytes 4) (c.keeps highest_first seven seven_bytes 4)

  -- refusing everything
  pub choose_not_refusing : ((o : Order) (s : List ℕ) (b : Bytes s) (room : ℕ) → (c.call o s b room).refusal ≢ 0) → ⊥
  choose_not_refusing r = r highest_first seven seven_bytes 4 (ap (λ (a : Choice). a.refusal) is)

  -- forgetting the multiples: the width whose tape has the fewest steps
  pub choose_not_forgetting : ((o : Order) (s : List ℕ) (b : Bytes s) (room : ℕ) → (c.call o s b room).refusal ≡ 0 → (v : ℕ) → Allowed room v → (ds es : List ℤ)
      → Wnaf (c.call o s b room).width (number o s) (bit_count s) ds → Wnaf v (number o s) (bit_count s) es → doublings (tape_of ds) + additions (tape_of ds) ≤ doublings (tape_of es) + additions (tape_of es)) → ⊥
  unfolding seven number tape_of down moves doublings additions fractional_from fractional_digit fractional_next
  choose_not_forgetting r =
      let w = sym (ap (λ (a : Choice). a.width) is) in
      let two : Wnaf 2 7 8 (fractional_from 2 (largest 2) 9 7) = wnaf_is 2 7 8 (lit≤ tt) (lit< tt) in
      let four : Wnaf 4 7 8 (fractional_from 4 (largest 4) 9 7) = wnaf_is 4 7 8 (lit≤ tt) (lit< tt) in
      let h = r highest_first seven seven_bytes 4 (ap (λ (a : Choice). a.refusal) is) 4 four_allowed _ _ (subst (λ x. Wnaf x 7 8 (fractional_from 2 (largest 2) 9 7)) w two) four in
      omega (arith, h)

  -- taking the larger width on a tie
  pub choose_not_larger : ((o : Order) (s : List ℕ) (b : Bytes s) (room : ℕ) → (c.call o s b room).refusal ≡ 0 → (v : ℕ) → Allowed room v → Totals (number o s) (bit_count s) v (c.call o s b room).total
      → v ≤ (c.call o s b room).width) → ⊥
  unfolding seven number
  choose_not_larger r =
      let t = sym (ap (λ (a : Choice). a.total) is) in
      omega (arith, r highest_first seven seven_bytes 4 (ap (λ (a : Choice). a.refusal) is) 4 four_allowed (subst (λ x. Totals 7 8 4 x) t at_four), ap (λ (a : Choice). a.width) is)

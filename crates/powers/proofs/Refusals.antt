-- The rules of the call: what it answers where one of them is the first, and where none applies.
-- Assumes nothing.
use mathlib.Core.Path.{◌≡◌, refl, sym, ap, ◌∙◌, subst}
use mathlib.Core.Logic.{◌≢◌, ◌⊎◌, inl, inr, ⊎_elim}
use mathlib.Core.List.{List, ◌++◌}
use Prim.Native.Nat.{ℕ, ◌*◌, ◌%◌, ◌^◌, ◌<◌}
use native.Mathlib.Decide.{dec_lt}
use native.Mathlib.Omega.{arith}
use lib.ListN.{length, get_or, drop, length-append}
use Rattle.std.specs.Prelude.{min, Result, Ok, Err}
use Rattle.std.specs.Result.{IsErrAnd}
use Rattle.meaning.specs.Digits.{entries}
use Rattle.meaning.specs.Sets.{Pair}
use Rattle.meaning.specs.Refusals.{Rule, First}
use Rattle.meaning.specs.Words.{entry_of, plus, minus}
use Rattle.meaning.specs.Walks.{multiple, tape_value, doublings, additions}
use Rattle.meaning.specs.Multiples.{cost_of}
use Rattle.meaning.specs.Running.{step_rules}
use Rattle.meaning.specs.Powering.{power_rules, power, powers_of}
use Rattle.forms.proofs.Listed.{listed_length, listed_front}
use Rattle.forms.proofs.Refusals.{first_at, first_none, granted_none, kept_lent}
use Rattle.refusals.specs.declared.Reason.{Reason}
use Rattle.refusals.specs.declared.Refusal.{Refusal}
use Rattle.refusals.specs.Coded.{coded, At}
use Rattle.width.specs.Widths.{Tried}
use Rattle.width.proofs.Widths.{set_fine, set_refused}
use Rattle.walk.specs.Steps.{Reached}
use Rattle.walk.specs.Powers.{products, odd_powers}
use Rattle.walk.proofs.Walk.{Tables, walk_same}
use Rattle.walk.proofs.Powers.{walk_power}
use Rattle.run.specs.declared.Cost.{Cost}
use Rattle.run.specs.declared.Ran.{Ran}
use Rattle.run.specs.declared.State.{State}
use Rattle.run.specs.Walks.{Held}
use Rattle.refusals.proofs.Coded.{coded_some}
use Rattle.run.proofs.Refusals.{Fit, fit}
use Rattle.powers.specs.Outcomes.{Promise}
use Rattle.powers.specs.Walks.{lent, HasPowers}
use Rattle.powers.proofs.OddPowers.{stored}

-- a buffer with so many odd powers in front: each of them, and that they are there
module _ (m g count : ℕ) (lent₀ : List ℕ) {buffer : List ℕ} (e : buffer ≡ powers_of count m g ++ drop count lent₀) where
  stored_at : (j : ℕ) → j < count → get_or buffer j 0 ≡ g ^ multiple j % m
  unfolding powers_of
  stored_at j h = ap (λ xs. get_or xs j 0) e ∙ listed_front (stored m g) count j 0 (drop count lent₀) h

  stored_there : (j : ℕ) → j < count → j < length buffer
  unfolding powers_of
  stored_there j h = omega (arith, ap length e, length-append (powers_of count m g) (drop count lent₀), listed_length (stored m g) 0 count)

module _ (w l : ℕ) (ws : List ℕ) (m g i : ℕ) (powers₀ inverses₀ : List ℕ) where
  abbrev rules : List Rule
  rules = power_rules w l ws m g i (length powers₀) (length inverses₀)

  abbrev count : ℕ
  count = entries l

  abbrev room : ℕ
  room = min (length powers₀) (length inverses₀)

  -- the first rule that applies is answered, and both buffers are as lent
  refuses : (r : Refusal) → First rules (coded r.reason) r.place → Promise w l ws m g i powers₀ inverses₀ (Err r) powers₀ inverses₀
  refuses r f =
      let c = coded r.reason in
      let n = coded_some r.reason in
      record {
        first = f;
        power_is = sym (granted_none c (power m g i (tape_value ws)) n);
        doublings_are = sym (granted_none c (doublings ws) n);
        additions_are = sym (granted_none c (additions ws) n);
        cost_doublings_are = sym (granted_none c (2 * (cost_of count).doublings) n);
        cost_additions_are = sym (granted_none c (2 * (cost_of count).additions) n);
        powers_are = sym (kept_lent c (powers_of count m g ++ drop count powers₀) powers₀ n);
        inverses_are = sym (kept_lent c (powers_of count m i ++ drop count inverses₀) inverses₀ n);
      }

  pub refuses_set : (e : Reason) (r : Result Ran Refusal) → Tried w l (Err e) → IsErrAnd r (At 0 e) → Promise w l ws m g i powers₀ inverses₀ r powers₀ inverses₀
  refuses_set e (Ok x) none h = absurd h
  refuses_set e (Err r) none (reason, place) =
      let (k, n, u) = set_refused rules e refl none in
      refuses r (rw (ap coded reason ∙ n, place) (first_at rules k 0 u))

  module _ (pair : Pair w l) {n : ℕ} (is : n ≡ count) where
    -- the smaller buffer has room where both have
    either : room < count → (length powers₀ < count) ⊎ (length inverses₀ < count)
    either h = go (dec_lt (length powers₀) count)
      where
        go : Dec (length powers₀ < count) → (length powers₀ < count) ⊎ (length inverses₀ < count)
        go (yes l) = inl l
        go (no l) = inr (omega arith)

    neither : (room < count → ⊥) → (length powers₀ < count) ⊎ (length inverses₀ < count) → ⊥
    neither f = ⊎_elim (λ h. f (omega arith)) (λ h. f (omega arith))

    steps_at : {r p : ℕ} → First (step_rules n ws m room) r p → First (step_rules count ws m room) r p
    steps_at {r} {p} f = subst (λ k. First (step_rules k ws m room) r p) is f

    -- so what the steps refuse is refused
    after_steps : {r p : ℕ} → r ≢ 0 → First (step_rules count ws m room) r p → First rules r p
    after_steps some (inl a) = inr ((set_fine pair).0, inr ((set_fine pair).1, inl a))
    after_steps some (inr (a, inl b)) = inr ((set_fine pair).0, inr ((set_fine pair).1, inr (a, inl b)))
    after_steps some (inr (a, inr (b, inl (c, (h, q))))) = inr ((set_fine pair).0, inr ((set_fine pair).1, inr (a, inr (b, inl (c, (either h, q))))))
    after_steps some (inr (a, inr (b, inr (c, inl d)))) = inr ((set_fine pair).0, inr ((set_fine pair).1, inr (a, inr (b, inr (neither c, inl d)))))
    after_steps some (inr (a, inr (b, inr (c, inr (d, (z, q)))))) = absurd (some z)

    pub refuses_steps : (e : Refusal) (r : Result Ran Refusal) → First (step_rules n ws m room) (coded e.reason) e.place → IsErrAnd r (λ x. x ≡ e) → Promise w l ws m g i powers₀ inverses₀ r powers₀ inverses₀
    refuses_steps e (Ok x) f h = absurd h
    refuses_steps e (Err r) f h = refuses r (rw h (after_steps (coded_some e.reason) (steps_at f)))

    -- where the steps refuse nothing, and the powers are stored in front of what was lent
    module _ (f : First (step_rules n ws m room) 0 0) where
      steps : Fit count ws m room
      steps = fit count ws m room (steps_at f)

      module _
          {powers inverses : List ℕ} (stored_powers : powers ≡ powers_of n m g ++ drop n powers₀) (stored_inverses : inverses ≡ powers_of n m i ++ drop n inverses₀) where
        powers_are : powers ≡ powers_of count m g ++ drop count powers₀
        powers_are = stored_powers ∙ ap (λ k. powers_of k m g ++ drop k powers₀) is

        inverses_are : inverses ≡ powers_of count m i ++ drop count inverses₀
        inverses_are = stored_inverses ∙ ap (λ k. powers_of k m i ++ drop k inverses₀) is

        -- as the table that the walk asks for
        held_tables : Tables (λ a. a) count (odd_powers m g i) (lent powers inverses)
        held_tables plus j h = sym (stored_at m g count powers₀ powers_are j h)
        held_tables minus j h = sym (stored_at m i count inverses₀ inverses_are j h)

        -- then every word can be taken
        pub all_held : (j : ℕ) → j < length ws → Held (HasPowers powers inverses) (get_or ws j 0)
        all_held j h =
            let there = (steps.good j h).entry in
            record {
              entry =
                  record {
                    within = stored_there m g count powers₀ powers_are (entry_of (get_or ws j 0)) there;
                    within_inverse = stored_there m i count inverses₀ inverses_are (entry_of (get_or ws j 0)) there;
                  };
              double = (steps.good j h).double;
            }

        -- and no rule applies: the power, the counts and the cost
        pub accepts : {s : State} {cost : Cost} → g * i % m ≡ 1 % m → Reached (products m) (lent powers inverses) ws s.value s.doublings s.additions
            → (cost.doublings ≡ 2 * (cost_of n).doublings) × (cost.additions ≡ 2 * (cost_of n).additions)
            → Promise w l ws m g i powers₀ inverses₀ (Ok (record { residue = s.value; doublings = s.doublings; additions = s.additions; cost = cost })) powers inverses
        accepts {s} inverse h (d, a) =
            record {
              first =
                  first_none rules
                  ((set_fine pair).0, ((set_fine pair).1, ((λ z. omega (arith, steps.some)), ((λ h. omega (arith, steps.short)), (neither (λ h. omega (arith, steps.room_is)), ((λ p b. b.bad (steps.good p b.within)), ((λ h. h inverse), tt)))))));
              power_is = h.value_is ∙ sym (walk_power m g i inverse count ws (λ j h. (steps.good j h).entry) ∙ walk_same (products m) count held_tables ws (λ j h. (steps.good j h).entry));
              doublings_are = h.doublings_are;
              additions_are = h.additions_are;
              cost_doublings_are = d ∙ ap (λ k. 2 * (cost_of k).doublings) is;
              cost_additions_are = a ∙ ap (λ k. 2 * (cost_of k).additions) is;
              powers_are = powers_are;
              inverses_are = inverses_are;
            }

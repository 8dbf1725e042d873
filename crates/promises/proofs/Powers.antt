-- The promise of the run over powers: two outcomes that satisfy it for one input are equal, on the plain numbers, on the answer itself and on C's struct; each number exactly when;
-- some outcome keeps it at every input; what the powers cost and how they are made; the tape of a legal string; wrong answers are ruled out, and a case by hand. Assumes nothing.
use mathlib.Core.Path.{◌≡◌, refl, sym, ap, ◌∙◌}
use mathlib.Core.Logic.{◌≢◌, ◌⊎◌, inl, inr, ⊎_elim}
use mathlib.Core.List.{List, [], ◌∷◌, ◌++◌}
use Prim.Native.Nat.{ℕ, suc, ◌-◌, ◌*◌, ◌%◌, ◌^◌, ◌<◌, ◌≤◌}
use native.Mathlib.Decide.{dec_lt, ℕ_discrete}
use native.Mathlib.Nat.{pow-zero}
use native.Mathlib.Omega.{arith}
use lib.Dec.{lit≤}
use lib.IntN.{ℤ, negsuc}
use lib.ListN.{length, get_or, take, drop}
use Rattle.std.specs.Prelude.{Result}
use Rattle.meaning.specs.Scalars.{Order, number}
use Rattle.meaning.specs.Digits.{entries, listed, weight, top}
use Rattle.meaning.specs.Refusals.{Rule, First, granted, kept}
use Rattle.meaning.specs.Words.{most_words, step_of}
use Rattle.meaning.specs.Walks.{taken, walked, tape_value, doublings, additions}
use Rattle.meaning.specs.Multiples.{Cost, making_of, made_from, cost_doublings, cost_additions, cost_of}
use Rattle.meaning.specs.Running as Running
use Rattle.meaning.specs.Powering.{power_rules, power, powers_of, Powers}
use Rattle.forms.proofs.Refusals.{first_only, first_none, granted_all, kept_lent, clear}
use Rattle.width.proofs.Widths.{set_fine, pair_of}
use Rattle.walk.specs.Powers.{products}
use Rattle.walk.proofs.Lengths.{tape_fits}
use Rattle.walk.proofs.Multiples.{made_listed}
use Rattle.refusals.specs.declared.Refusal.{Refusal}
use Rattle.run.specs.declared.Ran.{Ran}
use Rattle.run.specs.Outcomes.{answer}
use Rattle.powers.specs.Outcomes.{Promise}
use Rattle.powers.proofs.OddPowers.{stored, stored_first, stored_next}
use Rattle.powers.proofs.Together.{together_accepted, together, together_scalar}
use Rattle.sarvundole.specs.declared.exported.Ran as Exported
use Rattle.sarvundole.specs.Runs.{ran}
use Rattle.promises.proofs.Exactly.{Exactly, exactly}
use Rattle.promises.proofs.Run.{ran_same, answer_same}
use Rattle.promises.proofs.Exported.{c_ran_same}
use Rattle.promises.proofs.Tape as Taping
use Rattle.promises.proofs.Check.{Legal}
use Rattle.promises.proofs.Cost.{Costs, set_costs}
use Rattle.promises.proofs.Known.{Stepped, all_good, eleventh, twelfth}
use Rattle.promises.proofs.Instances.{first_exists, by, or?, not?, width?, set?, word?}
use Rattle.promises.proofs.EndToEnd.{legal_taped}

module _ (w l : ℕ) (ws : List ℕ) (m g i : ℕ) (powers₀ inverses₀ : List ℕ) where
  abbrev rules : List Rule
  rules = power_rules w l ws m g i (length powers₀) (length inverses₀)

  abbrev count : ℕ
  count = entries l

  -- on plain numbers
  pub powers_plain : (a b : Running.Ran) (ps qs is js : List ℕ) → Powers w l ws m g i powers₀ inverses₀ a ps is → Powers w l ws m g i powers₀ inverses₀ b qs js → (a ≡ b) × (ps ≡ qs) × (is ≡ js)
  powers_plain a b ps qs is js K L =
      let (r, p) = first_only rules K.first L.first in (
        ran_same a b r p (K.power_is ∙ ap (λ t. granted t (power m g i (tape_value ws))) r ∙ sym L.power_is)
            (K.doublings_are ∙ ap (λ t. granted t (doublings ws)) r ∙ sym L.doublings_are)
            (K.additions_are ∙ ap (λ t. granted t (additions ws)) r ∙ sym L.additions_are)
            (K.cost_doublings_are ∙ ap (λ t. granted t (2 * (cost_of count).doublings)) r ∙ sym L.cost_doublings_are)
            (K.cost_additions_are ∙ ap (λ t. granted t (2 * (cost_of count).additions)) r ∙ sym L.cost_additions_are),
        K.powers_are ∙ ap (λ t. kept t (powers_of count m g ++ drop count powers₀) powers₀) r ∙ sym L.powers_are,
        K.inverses_are ∙ ap (λ t. kept t (powers_of count m i ++ drop count inverses₀) inverses₀) r ∙ sym L.inverses_are,
      )

  -- on the answer itself
  pub powers_determined : (a b : Result Ran Refusal) (ps qs is js : List ℕ) → Promise w l ws m g i powers₀ inverses₀ a ps is → Promise w l ws m g i powers₀ inverses₀ b qs js → (a ≡ b) × (ps ≡ qs) × (is ≡ js)
  powers_determined a b ps qs is js P Q =
      let (e, f, h) = powers_plain (answer a) (answer b) ps qs is js P Q in
      (answer_same a b e, f, h)

  -- and on C's struct
  pub c_powers_determined : (a b : Exported.Ran) (ps qs is js : List ℕ) → Powers w l ws m g i powers₀ inverses₀ (ran a) ps is → Powers w l ws m g i powers₀ inverses₀ (ran b) qs js → (a ≡ b) × (ps ≡ qs) × (is ≡ js)
  c_powers_determined a b ps qs is js K L = let (e, f, h) = powers_plain (ran a) (ran b) ps qs is js K L in (c_ran_same a b e, f, h)

  -- ---- some outcome keeps it
  pub powers_kept_by : (a : Running.Ran) × (ps : List ℕ) × (is : List ℕ) × Powers w l ws m g i powers₀ inverses₀ a ps is
  powers_kept_by =
      let (r, p, f) = first_exists rules (
        width? w,
        λ _. (
          set? w l,
          λ _. (
            by (ℕ_discrete m 0),
            λ _. (
              by (dec_lt most_words (length ws)),
              λ _. (by (or? (dec_lt (length powers₀) count) (dec_lt (length inverses₀) count)), λ _. (word? count ws, λ _. (by (not? (ℕ_discrete (g * i % m) (1 % m))), λ _. tt))),
            ),
          ),
        ),
      ) in (
        record {
          refusal = r;
          place = p;
          residue = granted r (power m g i (tape_value ws));
          doublings = granted r (doublings ws);
          additions = granted r (additions ws);
          cost = record { doublings = granted r (2 * (cost_of count).doublings); additions = granted r (2 * (cost_of count).additions) };
        },
        kept r (powers_of count m g ++ drop count powers₀) powers₀,
        kept r (powers_of count m i ++ drop count inverses₀) inverses₀,
        record { first = f; power_is = refl; doublings_are = refl; additions_are = refl; cost_doublings_are = refl; cost_additions_are = refl; powers_are = refl; inverses_are = refl },
      )

  module _ {a : Running.Ran} {powers inverses : List ℕ} (K : Powers w l ws m g i powers₀ inverses₀ a powers inverses) where
    -- ---- demand 1: each number is given exactly when its rule is the first that applies
    pub powers_exactly : Exactly rules a.refusal a.place
    powers_exactly = exactly rules tt a.refusal a.place K.first

    -- and a refusal leaves both buffers
    pub powers_kept : a.refusal ≢ 0 → (powers ≡ powers₀) × (inverses ≡ inverses₀)
    powers_kept n = (K.powers_are ∙ kept_lent a.refusal _ powers₀ n, K.inverses_are ∙ kept_lent a.refusal _ inverses₀ n)

    module _ (z : a.refusal ≡ 0) where
      -- an accepted empty tape gives 1 modulo m
      pub powers_empty : ws ≡ [] → a.residue ≡ 1 % m
      unfolding power walked
      powers_empty e = K.power_is ∙ granted_all _ (power m g i (tape_value ws)) z ∙ ap (λ xs. power m g i (tape_value xs)) e ∙ ap (λ x. x % m) (pow-zero g)

      -- a tape of a negative value the inverse to the positive power
      pub powers_below : (n : ℕ) → tape_value ws ≡ negsuc n → a.residue ≡ i ^ suc n % m
      unfolding power
      powers_below n e = K.power_is ∙ granted_all _ (power m g i (tape_value ws)) z ∙ ap (power m g i) e

      -- both sets of powers cost twice what the multiples of a run do
      pub powers_cost : (c : Cost) × Costs l c × (a.cost.doublings ≡ 2 * c.doublings) × (a.cost.additions ≡ 2 * c.additions)
      powers_cost = (
        cost_of count,
        set_costs l (pair_of w l (clear rules tt a.refusal a.place K.first z).1.0).between.odd,
        K.cost_doublings_are ∙ granted_all a.refusal (2 * (cost_of count).doublings) z,
        K.cost_additions_are ∙ granted_all a.refusal (2 * (cost_of count).additions) z,
      )

-- the making whose steps are counted, by products from the base's residue, gives the powers that are stored
pub powers_made : (count m g : ℕ) → 0 < count → made_from (products m) (g % m) count ≡ powers_of count m g
unfolding powers_of
powers_made count m g h = ap (λ a. made_from (products m) a count) (stored_first m g) ∙ made_listed (products m) (stored m g) next count h
  where
    next : (e : ℕ) → stored m g e * (stored m g 0 * stored m g 0 % m) % m ≡ stored m g (suc e)
    next e = stored_next m g e refl (ap (λ a. a * a % m) (sym (stored_first m g))) ∙ ap (stored m g) (omega arith)

-- ---- demands 2 and 3: a legal string's tape is refused only for the modulus, the room or the inverse; it gives the base to the scalar, with the string's counts
pub record Raised (N m g k t : ℕ) (r : Running.Ran) : Type 0 where
  pub accepted : r.refusal ≡ 0
  pub power_is : r.residue ≡ g ^ N % m
  pub doublings_are : r.doublings ≡ t - 1
  pub additions_are : r.additions ≡ k - 1

pub legal_raised : (w l : ℕ) {order : Order} {s : List ℕ} {ds : List ℤ} → Legal w l order s ds → {words₀ : List ℕ} → most_words ≤ length words₀ → (t : Taping.Outcome) → Taping.Keeps w l ds words₀ t
    → {m g i : ℕ} {powers₀ inverses₀ powers inverses : List ℕ} → m ≢ 0 → entries l ≤ length powers₀ → entries l ≤ length inverses₀ → g * i % m ≡ 1 % m
    → (r : Running.Ran) → Powers w l (take t.taped.words t.words) m g i powers₀ inverses₀ r powers inverses → Raised (number order s) m g (weight ds) (top ds) r
legal_raised w l {order} {s} L room t K some fits fits' inverse r P =
    let z = legal_taped w l L room t K in
    let e = together_accepted w l K z P some fits fits' inverse in
    let d = together w l K z P e in
    record { accepted = e; power_is = together_scalar w l K z P (number order s) L.worth_is e; doublings_are = d.doublings_are; additions_are = d.additions_are }

-- ---- a case by hand: the tape of 13 in P2 modulo 1000003, where 600002 is the inverse of 5. 5 to the 13 is 1220703125, and 699465 modulo 1000003
-- the tape of a known string is accepted, where the modulus is not 0, the powers have room and the inverse is one
known_first : {w l : ℕ} {ds : List ℤ} {ws : List ℕ} {n h x doubled added : ℕ} {multiples : List ℕ} → Stepped w l ds ws n h x doubled added multiples → (m g i : ℕ) {room room' : ℕ}
    → m ≢ 0 → entries l ≤ room → entries l ≤ room' → g * i % m ≡ 1 % m → First (power_rules w l ws m g i room room') 0 0
known_first {w} {l} {ds} {ws} {n} {h} {x} {doubled} {added} {multiples} S m g i {room} {room'} some fits fits' inverse =
    let few : length ws ≤ 1057 = omega (arith, ap length S.words_are, tape_fits ds S.short) in
    first_none (power_rules w l ws m g i room room')
    ((set_fine S.pair).0, ((set_fine S.pair).1, (some, ((λ k. omega arith), (⊎_elim (λ k. omega arith) (λ k. omega arith), (all_good w l ds ws n h x doubled added multiples S, ((λ k. k inverse), tt)))))))

abbrev thirteen : List ℕ
thirteen = 0x1000 ∷ 0 ∷ 0 ∷ 0x4000 ∷ 0 ∷ 0 ∷ 0x3000 ∷ []

pub powers_known : (powers₀ inverses₀ : List ℕ) → 1 ≤ length powers₀ → 1 ≤ length inverses₀ → (a : Running.Ran) (ps is : List ℕ) → Powers 2 1 thirteen 1000003 5 600002 powers₀ inverses₀ a ps is
    → (a ≡ record { refusal = 0; place = 0; residue = 699465; doublings = 4; additions = 2; cost = record { doublings = 0; additions = 0 } }) × (ps ≡ 5 ∷ drop 1 powers₀) × (is ≡ 600002 ∷ drop 1 inverses₀)
unfolding power powers_of listed walked taken step_of doublings additions making_of cost_doublings cost_additions
powers_known powers₀ inverses₀ fits fits' a ps is K =
    powers_plain 2 1 thirteen 1000003 5 600002 powers₀ inverses₀ a _ ps _ is _ K
    (record {
      first = known_first eleventh 1000003 5 600002 (λ e. omega arith) fits fits' refl;
      power_is = refl;
      doublings_are = refl;
      additions_are = refl;
      cost_doublings_are = refl;
      cost_additions_are = refl;
      powers_are = refl;
      inverses_are = refl;
    })

-- ---- calls that cannot keep the promise
-- an outcome for every input which keeps the promise
pub record PowerRunner : Type 0 where
  pub call : (w l : ℕ) (ws : List ℕ) (m g i : ℕ) (powers₀ inverses₀ : List ℕ) → Running.Ran
  pub powers : (w l : ℕ) (ws : List ℕ) (m g i : ℕ) (powers₀ inverses₀ : List ℕ) → List ℕ
  pub inverses : (w l : ℕ) (ws : List ℕ) (m g i : ℕ) (powers₀ inverses₀ : List ℕ) → List ℕ
  pub keeps : (w l : ℕ) (ws : List ℕ) (m g i : ℕ) (powers₀ inverses₀ : List ℕ)
      → Powers w l ws m g i powers₀ inverses₀ (call w l ws m g i powers₀ inverses₀) (powers w l ws m g i powers₀ inverses₀) (inverses w l ws m g i powers₀ inverses₀)

-- there is one
pub power_runner : PowerRunner
power_runner =
    record {
      call = λ w l ws m g i powers₀ inverses₀. (powers_kept_by w l ws m g i powers₀ inverses₀).0;
      powers = λ w l ws m g i powers₀ inverses₀. (powers_kept_by w l ws m g i powers₀ inverses₀).1;
      inverses = λ w l ws m g i powers₀ inverses₀. (powers_kept_by w l ws m g i powers₀ inverses₀).2;
      keeps = λ w l ws m g i powers₀ inverses₀. (powers_kept_by w l ws m g i powers₀ inverses₀).3;
    }

module _ (c : PowerRunner) where
  -- what it does with that tape modulo 7, where 5 is the inverse of 3
  three : ((c.call 2 1 thirteen 7 3 5 (9 ∷ []) (9 ∷ [])).refusal ≡ 0) × ((c.call 2 1 thirteen 7 3 5 (9 ∷ []) (9 ∷ [])).residue ≡ 3) × (c.powers 2 1 thirteen 7 3 5 (9 ∷ []) (9 ∷ []) ≡ 3 ∷ [])
  unfolding power powers_of listed walked taken step_of
  three =
      let K = c.keeps 2 1 thirteen 7 3 5 (9 ∷ []) (9 ∷ []) in
      let a = c.call 2 1 thirteen 7 3 5 (9 ∷ []) (9 ∷ []) in
      let z = (first_only (power_rules 2 1 thirteen 7 3 5 1 1) K.first (known_first eleventh 7 3 5 (λ e. omega arith) (lit≤ tt) (lit≤ tt) refl)).0 in
      (z, K.power_is ∙ granted_all a.refusal 3 z, K.powers_are ∙ ap (λ r. kept r (3 ∷ []) (9 ∷ [])) z)

  -- refusing everything
  pub powers_not_refusing : ((w l : ℕ) (ws : List ℕ) (m g i : ℕ) (powers₀ inverses₀ : List ℕ) → (c.call w l ws m g i powers₀ inverses₀).refusal ≢ 0) → ⊥
  powers_not_refusing r = r 2 1 thirteen 7 3 5 (9 ∷ []) (9 ∷ []) three.0

  -- storing no powers
  pub powers_not_idle : ((w l : ℕ) (ws : List ℕ) (m g i : ℕ) (powers₀ inverses₀ : List ℕ) → c.powers w l ws m g i powers₀ inverses₀ ≡ powers₀) → ⊥
  powers_not_idle r = let z : ◌≡◌ {A = ℕ} 9 3 = ap (λ xs. get_or xs 0 0) (sym (r 2 1 thirteen 7 3 5 (9 ∷ []) (9 ∷ [])) ∙ three.2) in omega arith

  -- base and inverse taken for each other
  pub powers_not_turned : ((w l : ℕ) (ws : List ℕ) (m g i : ℕ) (powers₀ inverses₀ : List ℕ) → (c.call w l ws m g i powers₀ inverses₀).refusal ≡ 0 → (c.call w l ws m g i powers₀ inverses₀).residue ≡ power m i g (tape_value ws)) → ⊥
  unfolding power walked taken step_of
  powers_not_turned r = let z : ◌≡◌ {A = ℕ} 3 5 = sym three.1 ∙ r 2 1 thirteen 7 3 5 (9 ∷ []) (9 ∷ []) three.0 in omega arith

  -- one set's cost told for both
  pub powers_not_once : ((w l : ℕ) (ws : List ℕ) (m g i : ℕ) (powers₀ inverses₀ : List ℕ) → (c.call w l ws m g i powers₀ inverses₀).refusal ≡ 0 → (c.call w l ws m g i powers₀ inverses₀).cost.additions ≡ (cost_of (entries l)).additions) → ⊥
  unfolding making_of cost_additions
  powers_not_once r =
      let ws : List ℕ = 0x1001 ∷ 0 ∷ 0 ∷ 0 ∷ 0x4001 ∷ 0 ∷ [] in
      let lent : List ℕ = 9 ∷ 9 ∷ [] in
      let K = c.keeps 3 3 ws 10 9 9 lent lent in
      let z = (first_only (power_rules 3 3 ws 10 9 9 2 2) K.first (known_first twelfth 10 9 9 (λ e. omega arith) (lit≤ tt) (lit≤ tt) refl)).0 in
      let e : ◌≡◌ {A = ℕ} 2 1 = sym (K.cost_additions_are ∙ granted_all (c.call 3 3 ws 10 9 9 lent lent).refusal 2 z) ∙ r 3 3 ws 10 9 9 lent lent z in
      omega arith

  module _ (w l : ℕ) (ws : List ℕ) (m g i : ℕ) (powers₀ inverses₀ : List ℕ) where
    abbrev told : Running.Ran
    told = c.call w l ws m g i powers₀ inverses₀

    abbrev Changed : Type 0
    Changed = (c.powers w l ws m g i powers₀ inverses₀ ≢ powers₀) ⊎ (c.inverses w l ws m g i powers₀ inverses₀ ≢ inverses₀)

    -- trusting the inverse: one that is none is never accepted
    pub powers_not_trusting : g * i % m ≢ 1 % m → told.refusal ≡ 0 → ⊥
    powers_not_trusting n z =
        (clear (power_rules w l ws m g i (length powers₀) (length inverses₀)) tt told.refusal told.place (c.keeps w l ws m g i powers₀ inverses₀).first z).1.1.1.1.1.1.0 n

    -- storing on a refusal
    pub powers_not_storing : told.refusal ≢ 0 → Changed → ⊥
    powers_not_storing n = let (p, q) = powers_kept w l ws m g i powers₀ inverses₀ (c.keeps w l ws m g i powers₀ inverses₀) n in ⊎_elim (λ h. h p) (λ h. h q)

    -- storing before the product is tested: where it is not 1, neither buffer is another
    pub powers_not_storing_first : g * i % m ≢ 1 % m → Changed → ⊥
    powers_not_storing_first n = powers_not_storing (powers_not_trusting n)

    -- invented counts: at no accepted input is the report another than the counts of the tape's words
    pub powers_not_inventing : told.refusal ≡ 0 → (told.doublings ≢ doublings ws) ⊎ (told.additions ≢ additions ws) → ⊥
    powers_not_inventing z (inl n) = n ((c.keeps w l ws m g i powers₀ inverses₀).doublings_are ∙ granted_all _ (doublings ws) z)
    powers_not_inventing z (inr n) = n ((c.keeps w l ws m g i powers₀ inverses₀).additions_are ∙ granted_all _ (additions ws) z)

-- The promise of a run: two outcomes that satisfy it for one input are equal, on the plain numbers and on the answer itself; and some outcome satisfies it. Assumes nothing.
use mathlib.Core.Path.{◌≡◌, refl, sym, ap, ◌∙◌}
use mathlib.Core.Logic.{◌≢◌}
use mathlib.Core.List.{List, [], ◌∷◌, ◌++◌}
use Prim.Native.Nat.{ℕ, zero, suc}
use native.Mathlib.Decide.{ℕ_discrete}
use native.Mathlib.Omega.{arith}
use lib.IntN.{ℤ}
use Rattle.std.specs.Prelude.{Result, Ok, Err}
use lib.ListN.{length, drop}
use Rattle.laws.proofs.Choices.{not_below}
use Rattle.laws.proofs.Division.{floor, same_floor}
use Rattle.meaning.specs.Digits.{entries}
use Rattle.meaning.specs.Refusals.{Rule, First, granted, kept}
use Rattle.meaning.specs.Walks.{tape_value, doublings, additions}
use Rattle.meaning.specs.Multiples.{Cost, cost_of}
use Rattle.meaning.specs.Running as Running
use Rattle.meaning.specs.Running.{multiples_of, Residue, run_rules, Taking, times, total, RunBy, Run}
use Rattle.forms.proofs.Refusals.{first_only}
use Rattle.refusals.specs.declared.Refusal.{Refusal}
use Rattle.refusals.specs.Coded.{coded}
use Rattle.refusals.proofs.Coded.{coded_some, refusal_same}
use Rattle.run.specs.declared.Ran.{Ran}
use Rattle.run.specs.Outcomes.{answer, Promise}

-- one residue only
pub residue_same : (m : ℕ) (z : ℤ) (x y : ℕ) → Residue m z x → Residue m z y → x ≡ y
residue_same m z x y a b = (same_floor m a.quotient b.quotient x y (sym a.is ∙ b.is) a.least b.least).1

-- ---- an answer by its fields
-- on plain numbers
told : (r p x d n k l : ℕ) → Running.Ran
told r p x d n k l = record { refusal = r; place = p; residue = x; doublings = d; additions = n; cost = record { doublings = k; additions = l } }

pub ran_same : (a b : Running.Ran) → a.refusal ≡ b.refusal → a.place ≡ b.place → a.residue ≡ b.residue → a.doublings ≡ b.doublings → a.additions ≡ b.additions
    → a.cost.doublings ≡ b.cost.doublings → a.cost.additions ≡ b.cost.additions → a ≡ b
unfolding told
ran_same a b r p x d n k l =
    let e : told a.refusal a.place a.residue a.doublings a.additions a.cost.doublings a.cost.additions
    ≡ told b.refusal b.place b.residue b.doublings b.additions b.cost.doublings b.cost.additions = cc in
    e

-- so on the answer itself, since no refusal has the number 0
made : (x d n k l : ℕ) → Result Ran Refusal
made x d n k l = Ok (record { residue = x; doublings = d; additions = n; cost = record { doublings = k; additions = l } })

pub answer_same : (a b : Result Ran Refusal) → answer a ≡ answer b → a ≡ b
unfolding made
answer_same (Ok r) (Ok s) q =
    let x = ap (λ (x : Running.Ran). x.residue) q in
    let d = ap (λ (x : Running.Ran). x.doublings) q in
    let n = ap (λ (x : Running.Ran). x.additions) q in
    let k = ap (λ (x : Running.Ran). x.cost.doublings) q in
    let l = ap (λ (x : Running.Ran). x.cost.additions) q in
    let same : made r.residue r.doublings r.additions r.cost.doublings r.cost.additions ≡ made s.residue s.doublings s.additions s.cost.doublings s.cost.additions = cc in
    same
answer_same (Ok r) (Err g) q = absurd (coded_some g.reason (sym (ap (λ (x : Running.Ran). x.refusal) q)))
answer_same (Err f) (Ok s) q = absurd (coded_some f.reason (ap (λ (x : Running.Ran). x.refusal) q))
answer_same (Err f) (Err g) q = ap Err (refusal_same f g (ap (λ (x : Running.Ran). x.refusal) q) (ap (λ (x : Running.Ran). x.place) q))

-- ---- any run over residues
module _ (rules : List Rule) (count : ℕ) (ws : List ℕ) (m : ℕ) (sum : List Taking) (cost : Cost) (stored multiples₀ : List ℕ) where
  pub by_same : (a b : Running.Ran) (ms ns : List ℕ) → RunBy rules count ws m sum cost stored multiples₀ a ms → RunBy rules count ws m sum cost stored multiples₀ b ns → (a ≡ b) × (ms ≡ ns)
  by_same a b ms ns K L =
      let (r, p) = first_only rules K.first L.first in (
        ran_same a b r p (same r (ℕ_discrete a.refusal 0))
            (K.doublings_are ∙ ap (λ t. granted t (doublings ws)) r ∙ sym L.doublings_are)
            (K.additions_are ∙ ap (λ t. granted t (additions ws)) r ∙ sym L.additions_are)
            (K.cost_doublings_are ∙ ap (λ t. granted t cost.doublings) r ∙ sym L.cost_doublings_are)
            (K.cost_additions_are ∙ ap (λ t. granted t cost.additions) r ∙ sym L.cost_additions_are),
        K.multiples_are ∙ ap (λ t. kept t (stored ++ drop count multiples₀) multiples₀) r ∙ sym L.multiples_are,
      )
    where
      same : a.refusal ≡ b.refusal → Dec (a.refusal ≡ 0) → a.residue ≡ b.residue
      same e (yes z) = residue_same m (total sum) a.residue b.residue (K.residue_is z) (L.residue_is (sym e ∙ z))
      same e (no n) = K.residue_none n ∙ sym (L.residue_none (λ z. n (e ∙ z)))

  -- some outcome keeps its promise, where one of the rules is the first or none applies
  pub by_kept : (r p : ℕ) → First rules r p → (r ≡ 0 → m ≢ 0) → (a : Running.Ran) × (multiples : List ℕ) × RunBy rules count ws m sum cost stored multiples₀ a multiples
  by_kept zero p f some =
      let F = floor (total sum) m (not_below (λ h. some refl (omega arith))) in (
        record { refusal = 0; place = p; residue = F.rem; doublings = doublings ws; additions = additions ws; cost = cost },
        stored ++ drop count multiples₀,
        record {
          first = f;
          residue_is = λ _. record { quotient = F.quo; is = F.is; least = F.below };
          residue_none = λ n. absurd (n refl);
          doublings_are = refl;
          additions_are = refl;
          cost_doublings_are = refl;
          cost_additions_are = refl;
          multiples_are = refl;
        },
      )
  by_kept (suc r) p f some = (
    record { refusal = suc r; place = p; residue = 0; doublings = 0; additions = 0; cost = record { doublings = 0; additions = 0 } },
    multiples₀,
    record {
      first = f;
      residue_is = λ z. absurd (omega arith);
      residue_none = λ _. refl;
      doublings_are = refl;
      additions_are = refl;
      cost_doublings_are = refl;
      cost_additions_are = refl;
      multiples_are = refl;
    },
  )

-- ---- run
module _ (w l : ℕ) (ws : List ℕ) (m g : ℕ) (multiples₀ : List ℕ) where
  abbrev count : ℕ
  count = entries l

  pub run_plain : (a b : Running.Ran) (ms ns : List ℕ) → Run w l ws m g multiples₀ a ms → Run w l ws m g multiples₀ b ns → (a ≡ b) × (ms ≡ ns)
  run_plain = by_same (run_rules w l ws m (length multiples₀)) count ws m (times (tape_value ws) g ∷ []) (cost_of count) (multiples_of count m g) multiples₀

  pub run_determined : (a b : Result Ran Refusal) (ms ns : List ℕ) → Promise w l ws m g multiples₀ a ms → Promise w l ws m g multiples₀ b ns → (a ≡ b) × (ms ≡ ns)
  run_determined a b ms ns P Q = let (q, e) = run_plain (answer a) (answer b) ms ns P Q in (answer_same a b q, e)

-- The rules of the call: what it answers where one of them is the first, and where none applies; and what an accepted string is.
-- Assumes nothing.
use mathlib.Core.Path.{◌≡◌, refl, sym, ap, ◌∙◌}
use mathlib.Core.List.{List, ◌++◌}
use Prim.Native.Nat.{ℕ, ◌+◌, ◌-◌, ◌≤◌}
use native.Mathlib.Omega.{arith}
use lib.Dec.{T}
use lib.IntN.{ℤ, pos}
use lib.ListN.{length, get_or, take, drop}
use lib.Seq.{take-append_seam}
use Rattle.laws.proofs.Choices.{not_below, passes}
use Rattle.forms.proofs.Refusals.{Until, number_at, number_some, first_at, first_none, clear, granted_none, kept_lent, granted_all, kept_written}
use Rattle.forms.proofs.Strings.{all_in_is}
use Rattle.meaning.specs.Digits.{most_places, in_set, all_in, weight, top}
use Rattle.meaning.specs.Refusals.{Rule}
use Rattle.meaning.specs.Taping as Taping
use Rattle.meaning.specs.Taping.{tape_of, tape_rules, Tape}
use Rattle.meaning.specs.Sets.{Pair}
use Rattle.width.proofs.Widths.{set_fine, set_refused, pair_of}
use Rattle.digits.specs.declared.Count.{Count}
use Rattle.digits.specs.Scans.{Whole}
use Rattle.std.specs.Prelude.{Result, Ok, Err}
use Rattle.std.specs.Result.{IsErrAnd}
use Rattle.refusals.specs.declared.Reason.{Reason}
use Rattle.refusals.specs.declared.Refusal.{Refusal}
use Rattle.refusals.specs.Coded.{coded, At}
use Rattle.width.specs.Widths.{Tried}
use Rattle.tape.specs.declared.Written.{Written}
use Rattle.tape.specs.Answers.{answered}
use Rattle.walk.proofs.Lengths.{tape_length}

-- the words that a scan's counts ask for
pub needed_is : {m : ℕ} {ds : List ℤ} {c : Count} → Whole m ds c → (c.top - 1) + c.weight ≡ length (tape_of ds)
needed_is {m} {ds} whole = omega (arith, tape_length ds, whole.top_is, whole.weight_is)

module _ (w m : ℕ) (ds : List ℤ) (words₀ : List ℕ) where
  abbrev rules : List Rule
  rules = tape_rules w m ds (length words₀)

  -- the rule at index k is the first that applies: it is answered, and the buffer is as lent
  pub refuses : (k p : ℕ) (r : Refusal) → coded r.reason ≡ number_at rules k → r.place ≡ p → Until rules k p → Tape w m ds words₀ (answered (Err r)) words₀
  refuses k p r reason place u =
      let n = number_some rules tt k p u in
      let c = number_at rules k in
      rw (reason, place)
      (record {
        first = first_at rules k p u;
        count_is = sym (granted_none c (length (tape_of ds)) n);
        doublings_are = sym (granted_none c (top ds - 1) n);
        additions_are = sym (granted_none c (weight ds - 1) n);
        words_are = sym (kept_lent c (tape_of ds ++ drop (length (tape_of ds)) words₀) words₀ n);
      })

  -- so is what makes no set
  pub refuses_set : (e : Reason) (r : Result Written Refusal) → Tried w m (Err e) → IsErrAnd r (At 0 e) → Tape w m ds words₀ (answered r) words₀
  refuses_set e (Ok t) none h = absurd h
  refuses_set e (Err r) none (reason, place) = let (k, n, u) = set_refused rules e refl none in refuses k 0 r (ap coded reason ∙ n) place u

  module _ (pair : Pair w m) (short : length ds ≤ most_places) {c : Count} (whole : Whole m ds c) where
    -- no rule applies: the words stand in the buffer
    pub accepts : {t : Written} {words : List ℕ} → length (tape_of ds) ≤ length words₀ → t.words ≡ length (tape_of ds) → t.doublings ≡ c.top - 1 → t.additions ≡ c.weight - 1
        → words ≡ tape_of ds ++ drop (length (tape_of ds)) words₀ → Tape w m ds words₀ (answered (Ok t)) words
    accepts {t} h n d a e =
        record {
          first = first_none (tape_rules w m ds (length words₀)) ((set_fine pair).0, ((set_fine pair).1, ((λ l. omega arith), (whole.sound, ((λ l. omega arith), tt)))));
          count_is = n;
          doublings_are = d ∙ ap (λ k. k - 1) whole.top_is;
          additions_are = a ∙ ap (λ k. k - 1) whole.weight_is;
          words_are = e;
        }

-- ---- what an accepted string is
pub record Accepted (w m : ℕ) (ds : List ℤ) (words₀ : List ℕ) : Type 0 where
  pub pair : Pair w m
  pub short : length ds ≤ most_places
  pub sound : T (all_in m ds)
  pub room : length (tape_of ds) ≤ length words₀

module _ (w m : ℕ) {ds : List ℤ} {words₀ words : List ℕ} {a : Taping.Taped} (t : Tape w m ds words₀ a words) (z : a.refusal ≡ 0) where
  -- no rule applied to it
  pub accepted : Accepted w m ds words₀
  accepted =
      let (width, (set, (long, (bad, (room, _))))) = clear (tape_rules w m ds (length words₀)) tt a.refusal a.place t.first z in
      record {
        pair = pair_of w m set;
        short = not_below long;
        sound = all_in_is m ds (λ i h. passes (in_set m (get_or ds i (pos 0))) (λ f. bad i (record { within = h; bad = f })));
        room = not_below room;
      }

  -- the words that were written are its tape
  pub written_words : take a.words words ≡ tape_of ds
  written_words =
      ap (λ k. take k words) (t.count_is ∙ granted_all a.refusal (length (tape_of ds)) z)
      ∙ ap (take (length (tape_of ds))) (t.words_are ∙ kept_written a.refusal (tape_of ds ++ drop (length (tape_of ds)) words₀) words₀ z)
      ∙ take-append_seam (tape_of ds) (drop (length (tape_of ds)) words₀)

-- The rules of the translation: what it answers where one of them is the first, and where none applies; and what the words of an accepted one are.
-- Assumes nothing.
use mathlib.Core.Path.{◌≡◌, refl, sym, ap, ◌∙◌}
use mathlib.Core.List.{List, ◌++◌}
use Prim.Native.Nat.{ℕ}
use lib.ListN.{length, take, drop}
use lib.Seq.{take-append_seam}
use Rattle.meaning.specs.Digits.{entries}
use Rattle.std.specs.Prelude.{Result, Ok, Err}
use Rattle.std.specs.Result.{IsErrAnd}
use Rattle.meaning.specs.Refusals.{Rule, First}
use Rattle.meaning.specs.SecondChip as SecondChip
use Rattle.meaning.specs.SecondChip.{translation, translate_rules, Translate}
use Rattle.forms.proofs.Refusals.{first_at, granted_none, kept_lent, granted_all, kept_written}
use Rattle.refusals.specs.declared.Reason.{Reason}
use Rattle.refusals.specs.declared.Refusal.{Refusal}
use Rattle.refusals.specs.Coded.{coded, At}
use Rattle.width.specs.Widths.{Tried}
use Rattle.width.proofs.Widths.{set_refused}
use Rattle.walk.proofs.Translation.{translation_length}
use Rattle.refusals.proofs.Coded.{coded_some}
use Rattle.second.specs.Promises.{answered}

module _ (w l : ℕ) (ws words₀ : List ℕ) where
  abbrev rules : List Rule
  rules = translate_rules w l ws (length words₀)

  -- the first rule that applies is answered, and the buffer is as lent
  refuses : (r : Refusal) → First rules (coded r.reason) r.place → Translate w l ws words₀ (answered (Err r)) words₀
  refuses r f =
      let n = coded_some r.reason in
      record {
        first = f;
        count_is = sym (granted_none (coded r.reason) (length ws) n);
        words_are = sym (kept_lent (coded r.reason) (translation (entries l) ws ++ drop (length ws) words₀) words₀ n);
      }

  pub refuses_set : (e : Reason) (r : Result ℕ Refusal) → Tried w l (Err e) → IsErrAnd r (At 0 e) → Translate w l ws words₀ (answered r) words₀
  refuses_set e (Ok x) none h = absurd h
  refuses_set e (Err r) none (reason, place) =
      let (k, n, u) = set_refused rules e refl none in
      refuses r (rw (ap coded reason ∙ n, place) (first_at rules k 0 u))

-- the words that were written are the translation
pub written_words : (w l : ℕ) {ws words₀ words : List ℕ} {a : SecondChip.Translated} → Translate w l ws words₀ a words → a.refusal ≡ 0 → take a.words words ≡ translation (entries l) ws
written_words w l {ws} {words₀} {words} {a} t z =
    let all = translation (entries l) ws in
    ap (λ k. take k words) (t.count_is ∙ granted_all a.refusal (length ws) z ∙ sym (translation_length (entries l) ws))
    ∙ ap (take (length all)) (t.words_are ∙ kept_written a.refusal (all ++ drop (length ws) words₀) words₀ z) ∙ take-append_seam all (drop (length ws) words₀)

-- The promise of tape: two outcomes that satisfy it for one input are equal; and a word that is decoded encodes to itself, unless it is bad. Assumes nothing.
use mathlib.Core.Path.{◌≡◌, sym, ap, ◌∙◌}
use mathlib.Core.Logic.{◌≢◌}
use mathlib.Core.List.{List, ◌++◌}
use Prim.Native.Nat.{ℕ, ◌-◌}
use lib.IntN.{ℤ}
use lib.ListN.{length, drop}
use Rattle.meaning.specs.Digits.{weight, top}
use Rattle.meaning.specs.Refusals.{granted, kept}
use Rattle.meaning.specs.Words.{bad, step_of, word_of}
use Rattle.meaning.specs.Taping.{tape_of, tape_rules, Taped, Tape}
use Rattle.forms.proofs.Refusals.{first_only}
use Rattle.walk.specs.Steps.{Coded}
use Rattle.walk.proofs.Words.{back_word}

-- what a call leaves: its answer, and the buffer
pub record Outcome : Type 0 where
  pub taped : Taped
  pub words : List ℕ

-- the outcome satisfies the promise
abbrev pub Keeps : (w l : ℕ) (ds : List ℤ) (words₀ : List ℕ) → Outcome → Type 0
Keeps w l ds words₀ o = Tape w l ds words₀ o.taped o.words

-- outcomes are equal by their fields
made : (r p n d a : ℕ) (ws : List ℕ) → Outcome
made r p n d a ws = record { taped = record { refusal = r; place = p; words = n; doublings = d; additions = a }; words = ws }

pub tape_determined : (w l : ℕ) (ds : List ℤ) (words₀ : List ℕ) (o o' : Outcome) → Keeps w l ds words₀ o → Keeps w l ds words₀ o' → o ≡ o'
unfolding made
tape_determined w l ds words₀ o o' K K' =
    let t = o.taped in
    let t' = o'.taped in
    let (r, p) = first_only (tape_rules w l ds (length words₀)) K.first K'.first in
    let n = K.count_is ∙ ap (λ x. granted x (length (tape_of ds))) r ∙ sym K'.count_is in
    let d = K.doublings_are ∙ ap (λ x. granted x (top ds - 1)) r ∙ sym K'.doublings_are in
    let a = K.additions_are ∙ ap (λ x. granted x (weight ds - 1)) r ∙ sym K'.additions_are in
    let ws = K.words_are ∙ ap (λ x. kept x (tape_of ds ++ drop (length (tape_of ds)) words₀) words₀) r ∙ sym K'.words_are in
    let same : made t.refusal t.place t.words t.doublings t.additions o.words ≡ made t'.refusal t'.place t'.words t'.doublings t'.additions o'.words = cc in
    same

-- ---- words
-- a word is the word of its step, by the numbers that `word_of` gives each case; and that step can be encoded
pub decoded_back : (x : ℕ) → step_of x ≢ bad → Coded (step_of x) × (word_of (step_of x) ≡ x)
decoded_back = back_word

-- A string's entries, written one behind the other: one place's entry and then those of the places above it. Assumes nothing.
use mathlib.Core.Path.{◌≡◌, sym, ap, ◌∙◌}
use mathlib.Core.List.{List, [], ◌∷◌, ◌++◌}
use Prim.Native.Nat.{ℕ, suc, ◌+◌, ◌*◌, ◌<◌}
use native.Mathlib.Numerals.{add-one}
use native.Mathlib.Omega.{arith}
use lib.IntN.{ℤ, pos}
use lib.ListN.{length, get_or, drop}
use lib.Seq.{sets, drop-cons}
use Rattle.meaning.specs.Digits.{nonzero, weight}
use Rattle.meaning.specs.Hexadecimal.{pair, written}
use Rattle.meaning.specs.Frames.{two_bytes, byte_of}
use Rattle.meaning.specs.Frames.{entries_from, entry_bytes}
use Rattle.hexadecimal.proofs.Writing.{written_length}
use Rattle.layout.proofs.Entries.{Seen, is_zero, is_one, seen, entries_zero, entries_one, entry_bytes_length, entries_count}
use Rattle.laws.proofs.Runs.{sets_append}
use Rattle.frames.specs.Entered.{Entered}

-- the characters of the entries of a string whose lowest place is p
abbrev pub entered : ℕ → List ℤ → List ℕ
entered p ds = written (entry_bytes (entries_from p ds))

-- those of a lowest place, then the others
pub entered_cons : (p : ℕ) (d : ℤ) (ds : List ℤ) → entered p (d ∷ ds) ≡ entered p (d ∷ []) ++ entered (suc p) ds
unfolding entries_from entry_bytes written
entered_cons p d ds = go (seen d)
  where
    go : Seen d → entered p (d ∷ ds) ≡ entered p (d ∷ []) ++ entered (suc p) ds
    go (is_zero e z) = rw (entries_zero p d ds z, entries_zero p d [] z)
    go (is_one z) = rw (entries_one p d ds z, entries_one p d [] z)

pub entered_length : (p : ℕ) (ds : List ℤ) → length (entered p ds) ≡ 6 * weight ds
entered_length p ds = omega (arith, written_length (entry_bytes (entries_from p ds)), entry_bytes_length (entries_from p ds), entries_count p ds)

pub one_length : (p : ℕ) (d : ℤ) → length (entered p (d ∷ [])) ≡ 6 * nonzero d
unfolding weight
one_length p d = omega (arith, entered_length p (d ∷ []))

-- a place of a string and those above it
pub entered_then : (out : List ℕ) (at : ℕ) (ds : List ℤ) (i : ℕ) → i < length ds
    → sets out at (entered i (drop i ds))
    ≡ sets (sets out at (entered i (get_or ds i (pos 0) ∷ []))) (at + 6 * nonzero (get_or ds i (pos 0))) (entered (i + 1) (drop (i + 1) ds))
entered_then out at ds i h =
    let d = get_or ds i (pos 0) in
    let first = entered i (d ∷ []) in
    ap (λ l. sets out at (entered i l)) (drop-cons ds i (pos 0) h)
    ∙ ap (sets out at) (entered_cons i d (drop (suc i) ds))
    ∙ sets_append out at first (entered (suc i) (drop (suc i) ds))
    ∙ ap (λ k. sets (sets out at first) (at + k) (entered (suc i) (drop (suc i) ds))) (one_length i d)
    ∙ ap (λ k. sets (sets out at first) (at + 6 * nonzero d) (entered k (drop k ds))) (sym (add-one i))

pub weight_then : (ds : List ℤ) (i : ℕ) → i < length ds → weight (drop i ds) ≡ nonzero (get_or ds i (pos 0)) + weight (drop (i + 1) ds)
unfolding weight
weight_then ds i h = ap weight (drop-cons ds i (pos 0) h) ∙ ap (λ k. nonzero (get_or ds i (pos 0)) + weight (drop k ds)) (sym (add-one i))

-- ---- one place
module _ (d : ℤ) (place at : ℕ) (out₀ : List ℕ) where
  pub enters_none : nonzero d ≡ 0 → Entered d place at out₀ at out₀
  unfolding entry_bytes written entries_from
  enters_none z = record { next_is = omega arith; out_is = sym (ap (λ es. sets out₀ at (written (entry_bytes es))) (entries_zero place d [] z)) }

  pub enters_one : {out₁ out : List ℕ} → nonzero d ≡ 1 → out₁ ≡ sets out₀ at (written (two_bytes place)) → out ≡ sets out₁ (at + 4) (pair (byte_of d) [])
      → Entered d place at out₀ (at + 6) out
  unfolding entry_bytes written entries_from
  enters_one {out₁} {out} z e f =
      record {
        next_is = omega arith;
        out_is =
            f
            ∙ ap (λ o. sets o (at + 4) (pair (byte_of d) [])) e
            ∙ sym (sets_append out₀ at (written (two_bytes place)) (pair (byte_of d) []))
            ∙ sym (ap (λ es. sets out₀ at (written (entry_bytes es))) (entries_one place d [] z));
      }

-- A line read to the front of lent memory: one whose bytes fit, and any other. Assumes nothing.
use mathlib.Core.Path.{◌≡◌, refl, sym, ap, ◌∙◌}
use mathlib.Core.List.{List, ◌++◌}
use Prim.Native.Nat.{ℕ, ◌/◌}
use native.Mathlib.Omega.{arith}
use lib.ListN.{length, drop, length-append}
use lib.Seq.{sets}
use Rattle.laws.proofs.Runs.{sets_front}
use Rattle.meaning.specs.Hexadecimal.{bytes_of}
use Rattle.hexadecimal.specs.Pairs.{Readable, Pairs}
use Rattle.hexadecimal.proofs.Characters.{bytes_count}

pub read_whole : (line bytes₀ : List ℕ) {bytes : List ℕ} → Readable line (length bytes₀) → bytes ≡ sets bytes₀ 0 (bytes_of line) → Pairs line bytes₀ (length line / 2) bytes
read_whole line bytes₀ R e =
    let n : length (bytes_of line) ≡ length line / 2 = bytes_count line in
    let front = e ∙ sets_front bytes₀ (bytes_of line) R.2 in
    record {
      within = omega (arith, n, simp length-append at (ap length front));
      whole = λ _. (sym n, front ∙ ap (λ k. bytes_of line ++ drop k bytes₀) n);
      none = λ f. absurd (f R);
    }

pub read_none : {line bytes : List ℕ} → (Readable line (length bytes) → ⊥) → Pairs line bytes 0 bytes
read_none f = record { within = omega arith; whole = λ R. absurd (f R); none = λ _. (refl, refl) }

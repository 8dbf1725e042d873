-- The digits of a frame, place by place. Assumes nothing.
use mathlib.Core.Path.{◌≡◌, refl, sym, ap, ◌∙◌}
use mathlib.Core.List.{List, [], ◌∷◌}
use Prim.Native.Nat.{ℕ, zero, suc, ◌+◌, ◌-◌, ◌/◌, ◌<◌}
use native.Mathlib.Omega.{arith}
use lib.IntN.{pos}
use lib.ListN.{length, get_or, drop, length-drop}
use lib.Seq.{get_or-drop}
use Rattle.meaning.specs.Hexadecimal.{bytes_of}
use Rattle.meaning.specs.Frames.{digit_of, digits_of, places_in, digits_in}
use Rattle.hexadecimal.proofs.Characters.{bytes_count}
use Rattle.layout.proofs.Bytes.{digits_places, plain_places, plain_digits}
use Rattle.layout.specs.Wholes.{PlainFrame}

-- ---- version 1
digits_at : (bs : List ℕ) (i : ℕ) → i < length bs → get_or (digits_of bs) i (pos 0) ≡ digit_of (get_or bs i 0)
unfolding digits_of
digits_at [] i h = absurd (omega arith)
digits_at (b ∷ bs) zero h = refl
digits_at (b ∷ bs) (suc i) h = digits_at bs i (omega arith)

module _ (line : List ℕ) (f : PlainFrame line) where
  pub plain_count : length (digits_in (bytes_of line)) ≡ length line / 2 - 5
  plain_count = omega (arith, digits_places (bytes_of line), plain_places (bytes_of line) f.plain, bytes_count line)

  pub plain_room : places_in (bytes_of line) ≡ length line / 2 - 5
  plain_room = omega (arith, plain_places (bytes_of line) f.plain, bytes_count line)

  pub plain_digit : (i : ℕ) → i < length (digits_in (bytes_of line)) → digit_of (get_or (bytes_of line) (5 + i) 0) ≡ get_or (digits_in (bytes_of line)) i (pos 0)
  plain_digit i h =
      let bs = bytes_of line in
      ap digit_of (sym (get_or-drop 5 bs i 0))
      ∙ sym (digits_at (drop 5 bs) i (omega (arith, length-drop 5 bs, digits_places bs, plain_places bs f.plain)))
      ∙ ap (λ l. get_or l i (pos 0)) (sym (plain_digits bs f.plain))

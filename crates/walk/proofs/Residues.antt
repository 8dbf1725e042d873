-- The run over residues: the walk is the residue of the tape's value times the base. Assumes nothing.
use mathlib.Core.Path.{◌≡◌, sym, ap, ◌∙◌}
use mathlib.Core.List.{List}
use Prim.Native.Nat.{ℕ, ◌+◌, ◌*◌, ◌-◌, ◌%◌, ◌<◌}
use native.Mathlib.Nat.{zero-mul, mod-eq_of_lt}
use native.Mathlib.Omega.{arith}
use lib.IntN.{ℤ, pos, neg_ℤ, ◌+ℤ◌, ◌*ℤ◌, +ℤ_idl}
use Rattle.laws.proofs.Integers.{parts, diffs, ring}
use Rattle.laws.proofs.Residues.{residue, residue_is, residue_lt, residue_add, residue_sub, residue_double, residue_pos}
use Rattle.meaning.specs.Words.{plus, minus}
use Rattle.meaning.specs.Walks.{walk, wholes, multiple, odds, tape_value}
use Rattle.meaning.specs.Running.{Residue}
use Rattle.walk.specs.Residues.{residues, multiples}
use Rattle.walk.proofs.Walk.{Maps, Tables, Within, walk_maps}

module _ (m : ℕ) (some : 0 < m) where
  -- the residue of a negated number, as a run finds it
  pub residue_neg : (z : ℤ) → residue m (neg_ℤ z) ≡ (m - residue m z) % m
  residue_neg z =
      let e : residue m (pos 0) ≡ 0 = residue_pos m some 0 ∙ mod-eq_of_lt some in
      ap (residue m) (sym (+ℤ_idl (neg_ℤ z))) ∙ residue_sub m some (pos 0) z ∙ ap (λ a. (a + (m - residue m z)) % m) e ∙ ap (λ a. a % m) (omega arith)

  -- x is the least nonnegative residue
  pub residue_least : (z : ℤ) {x : ℕ} → residue m z ≡ x → Residue m z x
  residue_least z {x} p =
      let (q, e) = residue_is m some z in
      record { quotient = q; is = e ∙ ap (λ t. pos m *ℤ q +ℤ pos t) p; least = omega (arith, residue_lt m some z) }

module _ (m g : ℕ) (some : 0 < m) where
  -- the residue of z times the base
  abbrev pub image : ℤ → ℕ
  image z = residue m (z *ℤ pos g)

  pub residue_maps : Maps wholes (residues m) image
  residue_maps =
      record {
        none_is = ap (residue m) (ap pos (zero-mul g)) ∙ residue_pos m some 0 ∙ mod-eq_of_lt some;
        dbl_is = λ z. ap (residue m) (double z (pos g)) ∙ residue_double m some (z *ℤ pos g);
        add_is = λ z y. ap (residue m) (sum z y (pos g)) ∙ residue_add m some (z *ℤ pos g) (y *ℤ pos g);
      }
    where
      double : (z b : ℤ) → (pos 2 *ℤ z) *ℤ b ≡ pos 2 *ℤ (z *ℤ b)
      double z b = rw (parts z, parts b) (simp diffs (omega ring))

      sum : (z y b : ℤ) → (z +ℤ y) *ℤ b ≡ z *ℤ b +ℤ y *ℤ b
      sum z y b = rw (parts z, parts y, parts b) (simp diffs (omega ring))

  pub residue_tables : (count : ℕ) → Tables image count odds (multiples m g)
  residue_tables count plus e l = residue_pos m some (multiple e * g)
  residue_tables count minus e l =
      ap (residue m) (negate (pos (multiple e)) (pos g)) ∙ residue_neg m some (pos (multiple e) *ℤ pos g)
      ∙ ap (λ a. (m - a) % m) (residue_pos m some (multiple e * g))
    where
      negate : (z b : ℤ) → neg_ℤ z *ℤ b ≡ neg_ℤ (z *ℤ b)
      negate z b = rw (parts z, parts b) (simp diffs (omega ring))

  -- the walk of any words whose entries are there
  pub walk_residue : (count : ℕ) (ws : List ℕ) → Within count ws → image (tape_value ws) ≡ walk (residues m) (multiples m g) ws
  walk_residue count ws l =
      walk_maps residue_maps count (residue_tables count) ws l

  -- and that is the least nonnegative residue
  pub walk_residue_is : (count : ℕ) (ws : List ℕ) → Within count ws → Residue m (tape_value ws *ℤ pos g) (walk (residues m) (multiples m g) ws)
  walk_residue_is count ws l = residue_least m some (tape_value ws *ℤ pos g) (walk_residue count ws l)

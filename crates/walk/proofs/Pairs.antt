-- The joint run: the walk over pairs of whole numbers goes to the residue of A g + B h, where (A, B) is the tape's pair. Assumes nothing.
use mathlib.Core.Path.{◌≡◌, ap, ◌∙◌}
use mathlib.Core.List.{List}
use Prim.Native.Nat.{ℕ, zero, suc, ◌+◌, ◌-◌, ◌%◌, ◌<◌}
use native.Mathlib.Nat.{mod-eq_of_lt, mod-add-mod}
use lib.IntN.{ℤ, pos, neg_ℤ, ◌+ℤ◌, ◌-ℤ◌, ◌*ℤ◌}
use Rattle.laws.proofs.Integers.{parts, diffs, ring}
use Rattle.laws.proofs.Residues.{residue, residue_add, residue_sub, residue_double, residue_pos}
use Rattle.meaning.specs.Words.{plus, minus}
use Rattle.meaning.specs.Walks.{walk}
use Rattle.meaning.specs.Running.{Residue}
use Rattle.meaning.specs.JointRunning.{Pair, pairs, pair_at, columns, pair_value, jointly, joint_entry}
use Rattle.walk.specs.Residues.{residues, joint_entries}
use Rattle.walk.proofs.Walk.{Maps, Tables, Within, walk_maps}
use Rattle.walk.proofs.Residues.{residue_neg, residue_least}

-- as integers
joint_double : (a b g h : ℤ) → (pos 2 *ℤ a) *ℤ g +ℤ (pos 2 *ℤ b) *ℤ h ≡ pos 2 *ℤ (a *ℤ g +ℤ b *ℤ h)
joint_double a b g h = rw (parts a, parts b, parts g, parts h) (simp diffs (omega ring))

joint_add : (a b c d g h : ℤ) → (a +ℤ c) *ℤ g +ℤ (b +ℤ d) *ℤ h ≡ (a *ℤ g +ℤ b *ℤ h) +ℤ (c *ℤ g +ℤ d *ℤ h)
joint_add a b c d g h = rw (parts a, parts b, parts c, parts d, parts g, parts h) (simp diffs (omega ring))

joint_neg : (a b g h : ℤ) → neg_ℤ a *ℤ g +ℤ neg_ℤ b *ℤ h ≡ neg_ℤ (a *ℤ g +ℤ b *ℤ h)
joint_neg a b g h = rw (parts a, parts b, parts g, parts h) (simp diffs (omega ring))

joint_none : (g h : ℤ) → pos 0 *ℤ g +ℤ pos 0 *ℤ h ≡ pos 0
joint_none g h = rw (parts g, parts h) (simp diffs (omega ring))

-- the entries
joint_first : (g h : ℤ) → pos 1 *ℤ g +ℤ pos 0 *ℤ h ≡ g
joint_first g h = rw (parts g, parts h) (simp diffs (omega ring))

joint_second : (g h : ℤ) → pos 0 *ℤ g +ℤ pos 1 *ℤ h ≡ h
joint_second g h = rw (parts g, parts h) (simp diffs (omega ring))

joint_sum : (g h : ℤ) → pos 1 *ℤ g +ℤ pos 1 *ℤ h ≡ g +ℤ h
joint_sum g h = rw (parts g, parts h) (simp diffs (omega ring))

joint_difference : (g h : ℤ) → pos 1 *ℤ g +ℤ neg_ℤ (pos 1) *ℤ h ≡ g -ℤ h
joint_difference g h = less (pos 1) g h ∙ ap (λ x. g -ℤ x) (once h)
  where
    less : (c g h : ℤ) → pos 1 *ℤ g +ℤ neg_ℤ c *ℤ h ≡ g -ℤ c *ℤ h
    less c g h = rw (parts c, parts g, parts h) (simp diffs (omega ring))

    once : (h : ℤ) → pos 1 *ℤ h ≡ h
    once h = rw (parts h) (simp diffs (omega ring))

module _ (m g h : ℕ) (some : 0 < m) where
  -- its residue
  abbrev pub joint_residue : Pair → ℕ
  joint_residue p = residue m (jointly (pos g) (pos h) p)

  pub joint_maps : Maps pairs (residues m) joint_residue
  joint_maps =
      record {
        none_is = ap (residue m) (joint_none (pos g) (pos h)) ∙ residue_pos m some 0 ∙ mod-eq_of_lt some;
        dbl_is = λ p. ap (residue m) (joint_double p.first p.second (pos g) (pos h)) ∙ residue_double m some (jointly (pos g) (pos h) p);
        add_is = λ p q. ap (residue m) (joint_add p.first p.second q.first q.second (pos g) (pos h))
            ∙ residue_add m some (jointly (pos g) (pos h) p) (jointly (pos g) (pos h) q);
      }

  -- an entry as it is stored
  entry_is : (e : ℕ) → joint_residue (pair_at e) ≡ joint_entry m g h e
  unfolding pair_at joint_entry
  entry_is zero = ap (residue m) (joint_first (pos g) (pos h)) ∙ residue_pos m some g
  entry_is (suc zero) = ap (residue m) (joint_second (pos g) (pos h)) ∙ residue_pos m some h
  entry_is (suc (suc zero)) = ap (residue m) (joint_sum (pos g) (pos h)) ∙ residue_pos m some (g + h)
  entry_is (suc (suc (suc e))) =
      ap (residue m) (joint_difference (pos g) (pos h)) ∙ residue_sub m some (pos g) (pos h)
      ∙ ap (λ a. (a + (m - residue m (pos h))) % m) (residue_pos m some g) ∙ ap (λ a. (g % m + (m - a)) % m) (residue_pos m some h)
      ∙ mod-add-mod g m (m - h % m)

  pub joint_tables : (count : ℕ) → Tables joint_residue count columns (joint_entries m g h)
  joint_tables count plus e l = entry_is e
  joint_tables count minus e l =
      ap (residue m) (joint_neg (pair_at e).first (pair_at e).second (pos g) (pos h)) ∙ residue_neg m some (jointly (pos g) (pos h) (pair_at e))
      ∙ ap (λ a. (m - a) % m) (entry_is e)

  -- the walk of any words whose entries are there
  pub walk_joint : (count : ℕ) (ws : List ℕ) → Within count ws → joint_residue (pair_value ws) ≡ walk (residues m) (joint_entries m g h) ws
  walk_joint count ws l = walk_maps joint_maps count (joint_tables count) ws l

  -- and that is the least nonnegative residue of A g + B h
  pub walk_joint_is : (count : ℕ) (ws : List ℕ) → Within count ws → Residue m (jointly (pos g) (pos h) (pair_value ws)) (walk (residues m) (joint_entries m g h) ws)
  walk_joint_is count ws l = residue_least m some (jointly (pos g) (pos h) (pair_value ws)) (walk_joint count ws l)

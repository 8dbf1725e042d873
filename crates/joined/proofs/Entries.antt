-- The four entries: as the code finds them, and each a residue. Assumes nothing.
use mathlib.Core.Path.{◌≡◌, sym, ap, ◌∙◌}
use mathlib.Core.List.{[], ◌∷◌}
use Prim.Native.Nat.{ℕ, zero, suc, ◌+◌, ◌-◌, ◌%◌, ◌<◌}
use native.Mathlib.Nat.{mod-lt, add-mod, mod-add-mod}
use Rattle.meaning.specs.Digits.{listed}
use Rattle.meaning.specs.JointRunning.{joint_entry, joint_entries_of}

module _ (m g h : ℕ) where
  -- as the code finds them
  pub four_are : {s t : ℕ} → s ≡ (g % m + h % m) % m → t ≡ (g % m + (m - h % m)) % m → g % m ∷ h % m ∷ s ∷ t ∷ [] ≡ joint_entries_of m g h
  unfolding joint_entries_of listed joint_entry
  four_are {s} {t} p q =
      ap (λ x. g % m ∷ h % m ∷ x ∷ t ∷ []) (p ∙ sym (add-mod g h m)) ∙ ap (λ y. g % m ∷ h % m ∷ (g + h) % m ∷ y ∷ []) (q ∙ mod-add-mod g m (m - h % m))

  -- each is a residue
  pub entry_lt : 0 < m → (e : ℕ) → joint_entry m g h e < m
  unfolding joint_entry
  entry_lt n zero = mod-lt g n
  entry_lt n (suc zero) = mod-lt h n
  entry_lt n (suc (suc zero)) = mod-lt (g + h) n
  entry_lt n (suc (suc (suc e))) = mod-lt (g + (m - h % m)) n

-- What the call answers where no rule applies. Assumes nothing.
use mathlib.Core.Path.{refl}
use mathlib.Core.List.{List}
use Prim.Native.Nat.{ℕ, ◌≤◌}
use native.Mathlib.Omega.{arith}
use lib.ListN.{length}
use Rattle.meaning.specs.Scalars.{Order, number, bit_count, most_bytes}
use Rattle.meaning.specs.Choosing.{Least, choose_rules, Choose}
use Rattle.forms.proofs.Refusals.{first_none}

pub accepts : (o : Order) (s : List ℕ) (entries : ℕ) {w t : ℕ} → length s ≤ most_bytes → 1 ≤ entries → Least (number o s) (bit_count s) entries w t
    → Choose o s entries (record { refusal = 0; width = w; total = t })
accepts o s entries short some l =
    record { first = first_none (choose_rules s entries) ((λ h. omega arith), ((λ h. omega arith), tt)); accepted = λ _. l; refused = λ n. absurd (n refl) }

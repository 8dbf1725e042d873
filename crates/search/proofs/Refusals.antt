-- What the call answers where no rule applies: a number that is searched has a string. Assumes nothing.
use mathlib.Core.Path.{refl}
use Prim.Native.Nat.{ℕ, ◌≤◌}
use native.Mathlib.Omega.{arith}
use lib.IntN.{pos}
use Rattle.meaning.specs.Searching.{search_places, Search}
use Rattle.forms.proofs.Refusals.{first_none}
use Rattle.search.specs.Least.{most_number, Least, found, none}
use Rattle.search.proofs.Agreement.{nine_suffice}
use Rattle.meaning.specs.Searching.{search_rules}

pub accepts : (number w : ℕ) {k : ℕ} → 2 ≤ w → w ≤ 3 → number ≤ most_number → Least w search_places (pos number) k → Search number w (record { refusal = 0; weight = k })
accepts number w two three small (found l) =
    record { first = first_none (search_rules number w) ((λ h. omega arith), ((λ h. omega arith), tt)); accepted = λ _. l; refused = λ n. absurd (n refl) }
accepts number w two three small (none e n) = let (ds, f, s) = nine_suffice w number two small in absurd (n ds s)

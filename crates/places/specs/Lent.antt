-- Places in the memory that they were lent in. Assumes nothing.
use Rattle.std.specs.Prelude.{◌≡◌}
use Rattle.places.specs.declared.Places.{Places}

-- q stands where p stood: as far as a caller knows so, it knows what its own digits and marks come to
abbrev pub Lent : (p q : Places) → Type 0
Lent p q = (q.digits.ghost_name ≡ p.digits.ghost_name) × (q.marks.ghost_name ≡ p.marks.ghost_name)

-- What a printer has room for, and what it has written. Assumes nothing.
use Rattle.std.specs.Prelude.{◌≡◌, ℕ, ◌+◌, ◌≤◌, length}
use Rattle.asking.specs.declared.print.Printer.{Printer}

-- there is room for n more characters
abbrev pub Room : Printer → ℕ → Type 0
Room p n = p.end + n ≤ length p.out.now

-- n more characters are written, in the same memory
abbrev pub Wrote : (before after : Printer) → ℕ → Type 0
Wrote p q n = (q.end ≡ p.end + n) × (length q.out.now ≡ length p.out.now) × (q.out.ghost_name ≡ p.out.ghost_name)

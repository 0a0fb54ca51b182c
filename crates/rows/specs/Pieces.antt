-- Entries and roots that are given to a slot. This module is for private clauses. This project's own.
use Rattle.std.specs.Prelude.{ℕ, List, ◌++◌}
use Rattle.journal_text.specs.declared.record.Entry.{Entry}
use Rattle.switch_journal.specs.SlotPieces.{Pieces}

-- more entries are given
abbrev pub with_entries : List Entry → Pieces → Pieces
with_entries entries pieces = record { head = pieces.head; asked = pieces.asked; entries = pieces.entries ++ entries; roots = pieces.roots }

-- more roots are given
abbrev pub with_roots : List (List ℕ) → Pieces → Pieces
with_roots roots pieces = record { head = pieces.head; asked = pieces.asked; entries = pieces.entries; roots = pieces.roots ++ roots }

use Rattle.std.proofs.Common.{◌≡◌, take}
use Rattle.rows.specs.Pieces.{with_entries}
use Rattle.rows.proofs.pieces.give_entries.Given as goal

abbrev pub invariant-loop-entry : goal.invariant-loop-entry
invariant-loop-entry l = l.slot ≡ with_entries (take l.entry-index l.entries) l.initial.slot

use Rattle.std.proofs.Common.{◌≡◌, take}
use Rattle.journal_text.specs.Slots.{entry_names}
use Rattle.journal_text.proofs.slot_order.names_of_entries.Given as goal

abbrev pub invariant-loop-entry : goal.invariant-loop-entry
invariant-loop-entry l = l.names.items ≡ entry_names (take l.entry-index l.entries)

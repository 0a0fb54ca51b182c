use Rattle.std.proofs.Common.{ℕ, ◌≤◌, List, length, subst}
use Rattle.journal_text.specs.declared.slot.TheConstants.{SLOT_LIMIT}
use Rattle.rows.proofs.spellings.is_slot_written_so.Goals as goal

pub encode_slot-requires-clause-short : goal.encode_slot-requires-clause-short
encode_slot-requires-clause-short c = subst (λ (text : List ℕ). length text ≤ SLOT_LIMIT) c.requires.bytes_are c.requires.short

use Rattle.std.proofs.Common.{ℕ, ◌≤◌, List, length, subst}
use Rattle.journal_text.specs.declared.record.TheConstants.{RECORD_LIMIT}
use Rattle.rows.proofs.spellings.is_written_so.Goals as goal

pub encode-requires-clause-short : goal.encode-requires-clause-short
encode-requires-clause-short c = subst (λ (text : List ℕ). length text ≤ RECORD_LIMIT) c.requires.bytes_are c.requires.short

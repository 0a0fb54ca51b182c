use Rattle.std.proofs.Common.{◌≡◌, drop}
use Rattle.journal_text.specs.Parts.{paths_of}
use Rattle.switch_journal.specs.Keeping.{are_owned}
use Rattle.switch_journal.proofs.conditions.owns_all.Given as goal

abbrev pub invariant-loop-file : goal.invariant-loop-file
invariant-loop-file l = are_owned l.owners.owned l.pkg (paths_of l.files) ≡ are_owned l.owners.owned l.pkg (paths_of (drop l.file-index l.files))

use Rattle.std.proofs.Common.{◌≡◌, drop}
use Rattle.journal_text.specs.Parts.{paths_of}
use Rattle.switch_journal.specs.Keeping.{meets_any}
use Rattle.switch_journal.proofs.conditions.is_any_met.Given as goal

abbrev pub invariant-loop-file : goal.invariant-loop-file
invariant-loop-file l = meets_any l.owners.owned (paths_of l.files) ≡ meets_any l.owners.owned (paths_of (drop l.file-index l.files))

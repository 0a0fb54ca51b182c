use Rattle.switch_journal.proofs.Coming.{ComesFrom}
use Rattle.switch_journal.proofs.changes.with_files.Given as goal

abbrev pub invariant-loop-file : goal.invariant-loop-file
invariant-loop-file l = ComesFrom l.pkg l.fn.owners.owned l.files l.file-index l.owners.owned l.owners.spare

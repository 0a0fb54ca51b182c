use Rattle.std.proofs.Common.{◌≡◌, length}
use Rattle.std.specs.List.{list_all}
use Rattle.switch_journal.specs.Commits.{is_outside}
use Rattle.rows.proofs.journal.all_outside.Given as goal

-- no write so far lies in the folder of the journal
abbrev pub invariant-loop-rest : goal.invariant-loop-rest
invariant-loop-rest l = list_all is_outside l.rest ≡ list_all is_outside l.writes

abbrev pub decreases-loop-rest : goal.decreases-loop-rest
decreases-loop-rest l = length l.rest

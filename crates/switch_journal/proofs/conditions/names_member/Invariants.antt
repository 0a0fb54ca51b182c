use Rattle.std.proofs.Common.{◌≡◌, drop}
use Rattle.std.specs.List.{list_any}
use Rattle.switch_journal.specs.Applying.{is_named}
use Rattle.switch_journal.proofs.conditions.names_member.Given as goal

abbrev pub invariant-loop-entry : goal.invariant-loop-entry
invariant-loop-entry l = list_any (is_named l.name) l.target ≡ list_any (is_named l.name) (drop l.entry-index l.target)

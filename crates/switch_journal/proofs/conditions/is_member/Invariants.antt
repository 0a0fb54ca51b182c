use Rattle.std.proofs.Common.{◌≡◌, drop}
use Rattle.std.specs.List.{list_any}
use Rattle.switch_journal.specs.Applying.{is_same_entry}
use Rattle.switch_journal.proofs.conditions.is_member.Given as goal

abbrev pub invariant-loop-entry : goal.invariant-loop-entry
invariant-loop-entry l = list_any (is_same_entry (record { pkg = l.pkg; opam = l.opam })) l.target ≡ list_any (is_same_entry (record { pkg = l.pkg; opam = l.opam })) (drop l.entry-index l.target)

use Rattle.switch_journal.proofs.slot_owners.sorted_names.Given as goal

abbrev pub invariant-loop-at : goal.invariant-loop-at
invariant-loop-at l = Unit {0}

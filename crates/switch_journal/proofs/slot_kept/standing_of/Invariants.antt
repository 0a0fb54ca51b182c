use Rattle.std.proofs.Common.{◌≡◌, map}
use Rattle.switch_journal.specs.Places.{slot_path}
use Rattle.switch_journal.specs.Reading.{standing_of}
use Rattle.switch_journal.proofs.slot_kept.standing_of.Given as goal

abbrev pub invariant-loop-entry : goal.invariant-loop-entry
invariant-loop-entry l = l.standing ≡ map (standing_of (slot_path l.place)) l.yielded

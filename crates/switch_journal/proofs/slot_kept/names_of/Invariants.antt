use Rattle.std.proofs.Common.{◌≡◌, map, take}
use Rattle.switch_journal.specs.Reading.{name_of_standing}
use Rattle.switch_journal.proofs.slot_kept.names_of.Given as goal

abbrev pub invariant-loop-s : goal.invariant-loop-s
invariant-loop-s l = l.names ≡ map name_of_standing (take l.s-index l.standing)

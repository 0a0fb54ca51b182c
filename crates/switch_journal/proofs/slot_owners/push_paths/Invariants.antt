use Rattle.std.proofs.Common.{take}
use Rattle.switch_journal.specs.Pieced.{ArePathsAdded}
use Rattle.switch_journal.proofs.slot_owners.push_paths.Given as goal

abbrev pub invariant-loop-i : goal.invariant-loop-i
invariant-loop-i l = ArePathsAdded l.given (take l.i l.owners.owned) l.initial.out.items l.out.items

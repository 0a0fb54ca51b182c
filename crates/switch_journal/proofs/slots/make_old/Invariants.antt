use Rattle.std.proofs.Common.{◌≡◌}
use Rattle.switch_journal.specs.Slots.{old_writes}
use Rattle.switch_journal.proofs.slots.make_old.Given as goal

-- the first of them are listed
abbrev pub invariant-loop-at : goal.invariant-loop-at
invariant-loop-at l = l.writes ≡ old_writes l.first l.at

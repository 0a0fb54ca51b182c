use Rattle.switch_journal.proofs.Slotting.{IsSlotting}
use Rattle.switch_journal.proofs.slot_kept.owners_of.Given as goal

-- the paths that are left can be owned too
abbrev pub invariant-loop-one : goal.invariant-loop-one
invariant-loop-one l = IsSlotting l.fn.entries l.fn.owned l.one-iterator.rest.items l.owners

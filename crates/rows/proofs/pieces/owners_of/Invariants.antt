use Rattle.std.proofs.Common.{drop}
use Rattle.switch_journal.proofs.Slotting.{IsSlotting}
use Rattle.rows.proofs.pieces.owners_of.Given as goal

-- the paths that are left can be owned too
abbrev pub invariant-loop-one : goal.invariant-loop-one
invariant-loop-one l = IsSlotting l.entries l.owned (drop l.one-index l.owned) l.owners

-- A slot that tells the state of a switch. This module is for private clauses. This project's own.
use Rattle.std.specs.Prelude.{◌≡◌, ℕ, List, ◌++◌, length, map}
use Rattle.journal_text.specs.declared.record.Entry.{Entry}
use Rattle.journal_text.specs.declared.slot.Snapshot.{Snapshot}
use Rattle.switch_journal.specs.Journal.{Head}
use Rattle.switch_journal.specs.SlotPieces.{Pieces}
use Rattle.switch_journal.specs.Snapshots.{IsSameSwitch, IsSlotReady, contents_by}
use Rattle.switch_journal.specs.declared.slots.ReadySlot.{ReadySlot}
use Rattle.switch_state.specs.State.{Now, SwitchState, contents_in, member_entry}

-- a slot that is ready to be written for this switch tells its state
pub record IsSlotOf (now : Now) (ready : ReadySlot) : Type 0 where
  pub snapshot : Snapshot
  pub made : IsSlotReady now.head snapshot ready
  pub says : IsSameSwitch (contents_in now.state) (contents_by now.head snapshot)

-- more entries are given
abbrev pub with_entries : List Entry → Pieces → Pieces
with_entries entries pieces = record { head = pieces.head; asked = pieces.asked; entries = pieces.entries ++ entries; roots = pieces.roots }

-- more roots are given
abbrev pub with_roots : List (List ℕ) → Pieces → Pieces
with_roots roots pieces = record { head = pieces.head; asked = pieces.asked; entries = pieces.entries; roots = pieces.roots ++ roots }

-- all that a state gives to a slot, but for its paths
abbrev pub pieces_of : Head → SwitchState → Pieces
pieces_of head state = record { head = head; asked = length state.members; entries = map member_entry state.members; roots = state.roots }

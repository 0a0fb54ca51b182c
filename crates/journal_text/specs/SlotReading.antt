-- Slots read at the front of bytes. Words of this crate's own proofs: no public clause cites them.
use Rattle.std.specs.Prelude.{ℕ, List, [], codes}
use Rattle.std.specs.Int.{w32, w64}
use Rattle.std.specs.declared.option.Option.{Option}
use Rattle.journal_text.specs.Reading.{Read, both_at, counted_at, entry_at, name_at, number_at, path_at, whole_at}
use Rattle.journal_text.specs.declared.record.Entry.{Entry}
use Rattle.journal_text.specs.declared.slot.Owned.{Owned}
use Rattle.journal_text.specs.declared.slot.Snapshot.{Snapshot}

-- an owned path and the place of its owner
abbrev pub owned_at : List ℕ → Read Owned
owned_at = both_at (λ path owner. record { path = path; owner = owner }) path_at (number_at w32)

-- the number of the last record, and the entries
abbrev pub front_at : List ℕ → Read (ℕ × List Entry)
front_at = both_at (λ number entries. (number, entries)) (number_at w64) (counted_at entry_at)

-- the roots, and the owned paths
abbrev pub back_at : List ℕ → Read (List (List ℕ) × List Owned)
back_at = both_at (λ roots owned. (roots, owned)) (counted_at name_at) (counted_at owned_at)

-- a slot of its two halves
abbrev pub with_roots : ℕ × List Entry → List (List ℕ) × List Owned → Snapshot
with_roots front back = record { number = front.0; entries = front.1; roots = back.0; owned = back.1 }

-- an old slot of its two halves
abbrev pub without_roots : ℕ × List Entry → List Owned → Snapshot
without_roots front owned = record { number = front.0; entries = front.1; roots = []; owned = owned }

-- what stands behind the bytes of the format
abbrev pub slot_body_at : List ℕ → Read Snapshot
slot_body_at = both_at with_roots front_at back_at

-- the same of an old slot
abbrev pub old_slot_body_at : List ℕ → Read Snapshot
old_slot_body_at = both_at without_roots front_at (counted_at owned_at)

-- a whole slot
abbrev pub slot_at : List ℕ → Option Snapshot
slot_at = whole_at (codes "OPAMSNP2") slot_body_at

-- a whole old slot
abbrev pub old_slot_at : List ℕ → Option Snapshot
old_slot_at = whole_at (codes "OPAMSNP1") old_slot_body_at

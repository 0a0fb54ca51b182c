-- A slot that is given piece by piece: for which journal, of how many entries, its entries, its roots, and in the end the paths with
-- their owners. This project's own.
use Rattle.std.specs.Prelude.{◌≡◌, ℕ, List, [], ◌∷◌, ◌++◌, length, map, Bool, true, false}
use Rattle.std.specs.List.{list_all, list_any}
use Rattle.std.specs.declared.option.Option.TheVariants.{None}
use Rattle.journal_text.specs.Parts.{is_own}
use Rattle.journal_text.specs.Slots.{AreNamesInOrder, entry_names}
use Rattle.journal_text.specs.declared.record.Entry.{Entry}
use Rattle.journal_text.specs.declared.slot.Snapshot.{Snapshot}
use Rattle.opam_names.specs.declared.packages.Pkg.{Pkg}
use Rattle.owner_map.specs.Owning as owning
use Rattle.owner_map.specs.declared.owned.OwnedPath.{OwnedPath}
use Rattle.switch_journal.specs.Applying.{are_few, are_few_paths, is_of}
use Rattle.switch_journal.specs.Contents.{Contents}
use Rattle.switch_journal.specs.Journal.{Head}
use Rattle.switch_journal.specs.Places.{slot_path}
use Rattle.switch_journal.specs.Reading.{standing_of}
use Rattle.switch_journal.specs.Snapshots.{IsSlotReady, contents_by, place_for}
use Rattle.switch_journal.specs.declared.slots.ReadySlot.{ReadySlot}

-- what was given so far: for which journal, of how many entries, which of them, and which roots
pub record Pieces : Type 0 where
  pub head : Head
  pub asked : ℕ
  pub entries : List Entry
  pub roots : List (List ℕ)

-- nothing yet
abbrev pub begun : Head → ℕ → Pieces
begun head asked = record { head = head; asked = asked; entries = []; roots = [] }

-- an entry more
abbrev pub with_entry : Pkg → List ℕ → Pieces → Pieces
with_entry pkg opam pieces = record { head = pieces.head; asked = pieces.asked; entries = pieces.entries ++ record { pkg = pkg; opam = opam } ∷ []; roots = pieces.roots }

-- a root more
abbrev pub with_root : List ℕ → Pieces → Pieces
with_root name pieces = record { head = pieces.head; asked = pieces.asked; entries = pieces.entries; roots = pieces.roots ++ name ∷ [] }

-- the owner of the path is one of the entries
abbrev pub is_owner_given : List Entry → OwnedPath → Bool
is_owner_given entries owned = list_any (is_of owned.owner) entries

-- all entries were given, no two of one name; roots rise and are entries; no path is the switch's own, each owner is an entry, and a
-- switch may have so much
pub record CanFinish (pieces : Pieces) (owned : List OwnedPath) : Type 0 where
  pub given : length pieces.entries ≡ pieces.asked
  pub names : AreNamesInOrder (entry_names pieces.entries) pieces.roots
  pub free : list_any is_own (owning.paths_of owned) ≡ false
  pub owners : list_all (is_owner_given pieces.entries) owned ≡ true
  pub few : are_few pieces.entries ≡ true
  pub few_paths : are_few_paths owned ≡ true

-- what a slot of these pieces and paths says
abbrev pub contents_given : Pieces → List OwnedPath → Contents
contents_given pieces owned = record {
  standing = map (standing_of (slot_path (place_for pieces.head))) pieces.entries;
  owned = owned;
  roots = pieces.roots;
  request = None;
}

-- a slot that is ready to be written for the journal says just that
pub record IsSlotGiven (pieces : Pieces) (owned : List OwnedPath) (ready : ReadySlot) : Type 0 where
  pub snapshot : Snapshot
  pub made : IsSlotReady pieces.head snapshot ready
  pub says : contents_by pieces.head snapshot ≡ contents_given pieces owned

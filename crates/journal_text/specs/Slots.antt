-- The spelling of slots, in the format that is written and in the old one. This project's own. A slot is the eight bytes of its
-- format, the number of the last record in it, and its lists; nothing follows.
use Rattle.std.specs.Prelude.{◌≡◌, ◌<◌, ◌≤◌, ◌^◌, ℕ, List, [], ◌++◌, length, map, Bool, true, bytes_eq, codes, nat_lt}
use Rattle.std.specs.Int.{w32, w64, to_be_bytes}
use Rattle.std.specs.List.{All, IsDistinct, list_all, list_any}
use Rattle.opam_names.specs.ByteOrders.{RisesBy, has_key}
use Rattle.opam_names.specs.Names.{IsName}
use Rattle.opam_names.specs.Paths.{IsPath}
use Rattle.journal_text.specs.Words.{counted, short_text}
use Rattle.journal_text.specs.Parts.{AreFree, IsEntry, entry_bytes, own_name}
use Rattle.journal_text.specs.declared.record.Entry.{Entry}
use Rattle.journal_text.specs.declared.slot.Owned.{Owned}
use Rattle.journal_text.specs.declared.slot.Snapshot.{Snapshot}
use Rattle.journal_text.specs.declared.slot.TheConstants.{SLOT_LIMIT}

-- an owned path is the path and the place of its owner, in four bytes
abbrev pub owned_bytes : Owned → List ℕ
owned_bytes owned = short_text owned.path ++ to_be_bytes w32 owned.owner

-- the entries, the roots and the owned paths
abbrev pub lists_bytes : List Entry → List (List ℕ) → List Owned → List ℕ
lists_bytes entries roots owned = counted entry_bytes entries ++ (counted short_text roots ++ counted owned_bytes owned)

-- the number of the last record, in eight bytes, and the lists
abbrev pub slot_body : Snapshot → List ℕ
slot_body slot = to_be_bytes w64 slot.number ++ lists_bytes slot.entries slot.roots slot.owned

-- a slot's spelling: the bytes of its format, and its parts
abbrev pub slot_bytes : Snapshot → List ℕ
slot_bytes slot = codes "OPAMSNP2" ++ slot_body slot

-- an owned path is a path
abbrev pub IsOwned : Owned → Type 0
IsOwned owned = IsPath owned.path

-- names, versions and paths are valid
pub record AreListsValid (entries : List Entry) (roots : List (List ℕ)) (owned : List Owned) : Type 0 where
  pub entries_are : All IsEntry entries
  pub roots_are : All IsName roots
  pub paths_are : All IsOwned owned

-- the number of a slot fits its bytes, and its names, versions and paths are valid
pub record IsSlotValid (slot : Snapshot) : Type 0 where
  pub number_fits : slot.number < 2 ^ 64
  pub lists_are : AreListsValid slot.entries slot.roots slot.owned

-- the names of the packages of entries
abbrev pub entry_names : List Entry → List (List ℕ)
entry_names entries = map (λ (entry : Entry). entry.pkg.name) entries

-- whether a name is one of these
abbrev pub is_among : List (List ℕ) → List ℕ → Bool
is_among names name = list_any (has_key own_name name) names

-- whether the owner is one of so many entries
abbrev pub has_owner : ℕ → Owned → Bool
has_owner count owned = nat_lt owned.owner count

-- the paths that a slot lists
abbrev pub owned_paths : List Owned → List (List ℕ)
owned_paths owned = map (λ (o : Owned). o.path) owned

-- no two entries have one name; roots rise in byte order, and each is the name of an entry
pub record AreNamesInOrder (names roots : List (List ℕ)) : Type 0 where
  pub entries_differ : IsDistinct bytes_eq names
  pub roots_rise : RisesBy own_name roots
  pub roots_are_among : list_all (is_among names) roots ≡ true

-- names stand in order, paths rise and none is above another, and each owner is an entry
pub record IsSlotInOrder (slot : Snapshot) : Type 0 where
  pub names_in_order : AreNamesInOrder (entry_names slot.entries) slot.roots
  pub paths_free : AreFree (owned_paths slot.owned)
  pub owners_are_among : list_all (has_owner (length slot.entries)) slot.owned ≡ true

-- bytes that are a slot's spelling
pub record IsSlotSpelledBy (slot : Snapshot) (bytes : List ℕ) : Type 0 where
  pub valid : IsSlotValid slot
  pub ordered : IsSlotInOrder slot
  pub short : length bytes ≤ SLOT_LIMIT
  pub bytes_are : bytes ≡ slot_bytes slot

-- bytes that are no slot's
abbrev pub SpellNoSlot : List ℕ → Type 0
SpellNoSlot bytes = (slot : Snapshot) → ¬ (IsSlotSpelledBy slot bytes)

-- ---- the old format, which is only read

-- an old slot has no roots
abbrev pub old_slot_bytes : Snapshot → List ℕ
old_slot_bytes slot = codes "OPAMSNP1" ++ (to_be_bytes w64 slot.number ++ (counted entry_bytes slot.entries ++ counted owned_bytes slot.owned))

-- bytes that are an old slot's spelling
pub record IsOldSlotSpelledBy (slot : Snapshot) (bytes : List ℕ) : Type 0 where
  pub valid : IsSlotValid slot
  pub ordered : IsSlotInOrder slot
  pub no_roots : slot.roots ≡ []
  pub short : length bytes ≤ SLOT_LIMIT
  pub bytes_are : bytes ≡ old_slot_bytes slot

-- bytes that are no old slot's
abbrev pub SpellNoOldSlot : List ℕ → Type 0
SpellNoOldSlot bytes = (slot : Snapshot) → ¬ (IsOldSlotSpelledBy slot bytes)

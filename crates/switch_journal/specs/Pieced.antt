-- The text of a slot that is given piece by piece, so far. This module is for private clauses. This project's own.
use Rattle.std.specs.Prelude.{◌≡◌, ℕ, ◌+◌, ◌-◌, ◌≤◌, ◌<◌, ◌^◌, List, ◌++◌, length, map, take, drop, slice_get, codes, Bool, true}
use Rattle.std.specs.Int.{w32, w64, to_be_bytes}
use Rattle.std.specs.List.{AllByRecursion, filter_map, flat_map, list_all, list_any}
use Rattle.std.specs.Option.{option_map}
use Rattle.std.specs.declared.option.Option.{Option}
use Rattle.std.specs.declared.option.Option.TheVariants.{Some}
use Rattle.journal_text.specs.Parts.{IsEntry, entry_bytes}
use Rattle.journal_text.specs.Slots.{IsOwned, has_owner, owned_bytes, owned_paths}
use Rattle.journal_text.specs.declared.record.Entry.{Entry}
use Rattle.journal_text.specs.declared.slot.Owned.{Owned}
use Rattle.opam_names.specs.declared.packages.Pkg.{Pkg}
use Rattle.owner_map.specs.Owning.{is_same_pkg, owned_by, paths_of}
use Rattle.owner_map.specs.declared.owned.OwnedPath.{OwnedPath}
use Rattle.switch_journal.specs.Journal.{Head}
use Rattle.switch_journal.specs.declared.slot_owners.Given.{Given}
use Rattle.switch_journal.specs.declared.slot_owners.NamePlace.{NamePlace}

-- the entry whose opam text stands there in the text
abbrev pub entry_in : List ℕ → Given → Entry
entry_in text given = record { pkg = given.pkg; opam = take given.len (drop given.from text) }

-- the entries that were given
abbrev pub entries_in : List ℕ → List Given → List Entry
entries_in text given = map (entry_in text) given

-- its opam text stands within so many bytes
abbrev pub IsWithin : ℕ → Given → Type 0
IsWithin count given = given.from + given.len ≤ count

-- the bytes before the entries
abbrev pub slot_front : Head → ℕ → List ℕ
slot_front head asked = codes "OPAMSNP2" ++ (to_be_bytes w64 (head.next - 1) ++ to_be_bytes w32 asked)

-- the text is the front and the entries so far, which are valid
pub record IsPieced (head : Head) (asked : ℕ) (text : List ℕ) (given : List Given) : Type 0 where
  pub numbered : head.next ≤ 2 ^ 63
  pub spelled : text ≡ slot_front head asked ++ flat_map entry_bytes (entries_in text given)
  pub within : AllByRecursion (IsWithin (length text)) given
  pub valid : AllByRecursion IsEntry (entries_in text given)

-- the package of what was given
abbrev pub given_pkg : Given → Pkg
given_pkg given = given.pkg

-- the package was given
abbrev pub has_given : List Given → Pkg → Bool
has_given given pkg = list_any (λ g. is_same_pkg (given_pkg g) pkg) given

-- the package stands there
pub record IsPlaceOf (given : List Given) (pkg : Pkg) (place : ℕ) : Type 0 where
  pub within : place < length given
  pub there : option_map given_pkg (slice_get given place) ≡ Some pkg

-- an owned path, with the package at the place of its owner
abbrev pub owned_as : List Given → Owned → Option OwnedPath
owned_as given placed = option_map (λ (g : Given). owned_by placed.path g.pkg) (slice_get given placed.owner)

-- the place of a package stands in byte order by its name
abbrev pub place_name : NamePlace → List ℕ
place_name place = place.name

-- paths with the places of their owners among so many entries, which are these packages
pub record ArePlaced (given : List Given) (owned : List OwnedPath) (placed : List Owned) : Type 0 where
  pub told : filter_map (owned_as given) placed ≡ owned
  pub paths : owned_paths placed ≡ paths_of owned
  pub owners : list_all (has_owner (length given)) placed ≡ true
  pub valid : AllByRecursion IsOwned placed

-- they were added to the text
pub record ArePathsAdded (given : List Given) (owned : List OwnedPath) (before after : List ℕ) : Type 0 where
  pub placed : List Owned
  pub are : ArePlaced given owned placed
  pub text : after ≡ before ++ flat_map owned_bytes placed

-- Proof words alone: what a package leads to is gathered by the names that it has, and not by asking each member.
use Rattle.std.specs.Prelude.{◌≡◌, ◌⊎◌, ℕ, ◌<◌, ◌&&◌, Bool, true, List, ◌++◌, length, slice_get, slice_index, bytes_eq}
use Rattle.std.specs.List.{flat_map, list_any}
use Rattle.std.specs.declared.option.Option.{Option}
use Rattle.std.specs.declared.option.Option.TheVariants.{None, Some}
use Rattle.opam_filter.specs.Sets.{names}
use Rattle.opam_filter.specs.declared.formula.Reduced.{Reduced, out-Reduced}
use Rattle.opam_filter.specs.declared.formula.Reduced.TheOpen.{Reduced-F}
use Rattle.opam_package.specs.Dependencies.{is_other, meets_one}
use Rattle.opam_package.specs.declared.package.Member.{Member}
use Rattle.opam_package.specs.declared.package.Need.{Need}
use Rattle.opam_package.specs.declared.package.Package.{Package}
use Rattle.action_graph.specs.Leaving.{name_of}
use Rattle.action_graph.specs.Places.{IsIn}

-- the member at a place passes a test
abbrev pub Passes : List Member → (Member → Bool) → ℕ → Type 0
Passes members test place = (member : Member) × (slice_get members place ≡ Some member) × (test member ≡ true)

-- the places of members that pass have come to others
pub record Gathers (members : List Member) (test : Member → Bool) (before now : List ℕ) : Type 0 where
  pub kept : (place : ℕ) → IsIn before place → IsIn now place
  pub only : (place : ℕ) → IsIn now place → IsIn before place ⊎ Passes members test place
  pub all : (place : ℕ) → Passes members test place → IsIn now place

-- another member that one of the names names
abbrev pub is_named_by : Package → List (List ℕ) → Member → Bool
is_named_by dependent names member = is_other dependent member.package.pkg && list_any (bytes_eq (name_of member)) names

-- another member that meets one of the atoms
abbrev pub is_wished_by : Package → List Reduced → Member → Bool
is_wished_by dependent atoms member = is_other dependent member.package.pkg && meets_one atoms member.package.pkg

-- the names that readings for running keep
abbrev pub names_to_run : List Need → List (List ℕ)
names_to_run needs = flat_map (λ (need : Need). names need.runtime) needs

-- and those for building
abbrev pub names_to_build : List Need → List (List ℕ)
names_to_build needs = flat_map (λ (need : Need). names need.runtime ++ names need.building) needs

-- the name of an atom
abbrev pub layer_name : Reduced-F Reduced → Option (List ℕ)
layer_name Reduced-F.Dropped = None
layer_name (Reduced-F.And parts) = None
layer_name (Reduced-F.Or parts) = None
layer_name (Reduced-F.Atom name test) = Some name

-- the same of what is left of a formula
abbrev pub atom_name : Reduced → Option (List ℕ)
atom_name reduced = layer_name (out-Reduced reduced)

-- the same numbers, from the least on, each once
pub record IsInOrder (before now : List ℕ) : Type 0 where
  pub rising : (i j : ℕ) → i < j → j < length now → slice_index now i < slice_index now j
  pub kept : (place : ℕ) → IsIn before place → IsIn now place
  pub only : (place : ℕ) → IsIn now place → IsIn before place

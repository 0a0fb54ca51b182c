-- What is known, over any disk, of the files that are read for a removal. This module is for private clauses. This project's own.
use Rattle.std.specs.Prelude.{◌≡◌, ℕ, ◌<◌, ◌≤◌, ◌+◌, List, [], ◌∷◌, ◌++◌, length, map, IsTrue}
use Rattle.std.specs.List.{list_any}
use Rattle.std.specs.declared.option.Option.{Option}
use Rattle.std.specs.declared.option.Option.TheVariants.{None, Some}
use Rattle.opam_names.specs.declared.packages.Pkg.{Pkg}
use Rattle.opam_package.specs.declared.package.Member.{Member}
use Rattle.journal_text.specs.Parts.{paths_of}
use Rattle.journal_text.specs.Records.{record_bytes}
use Rattle.journal_text.specs.declared.record.KeptFiles.{KeptFiles}
use Rattle.journal_text.specs.declared.record.Placed.{Placed}
use Rattle.journal_text.specs.declared.record.Rec.TheVariants.{Remove}
use Rattle.journal_text.specs.declared.record.TheConstants.{RECORD_LIMIT}
use Rattle.switch_journal.specs.Applying.{is_entry_with}
use Rattle.crash_disk.specs.Disks.{State}
use Rattle.switch_state.specs.Keeps.{byte_total, few_files, standing_files}
use Rattle.switch_state.specs.State.{member_entry}
use Rattle.switch_state.specs.declared.removals.TheConstants.{KEPT_LIMIT}
use Rattle.switch_state.specs.declared.removals.Standing.{Standing}
use Rattle.switch_state.specs.declared.removals.Standing.TheVariants as standing

-- the first paths are some of the second, in their order
pub data IsPart : List (List ℕ) → List (List ℕ) → Type 0 where
  no_path : IsPart [] []
  with_path : (path : List ℕ) {few all : List (List ℕ)} → IsPart few all → IsPart (path ∷ few) (path ∷ all)
  without_path : (path : List ℕ) {few all : List (List ℕ)} → IsPart few all → IsPart few (path ∷ all)

-- a file that was read stands at this path, and is within the limit
abbrev pub IsAt : List ℕ → ℕ → Standing → Type 0
IsAt path limit standing.Absent = Unit {0}
IsAt path limit standing.TooLong = Unit {0}
IsAt path limit (standing.File file) = (file.path ≡ path) × (length file.bytes ≤ limit)

-- what is read where this stands
abbrev pub IsReadOf : Option Placed → ℕ → Standing → Type 0
IsReadOf None limit seen = seen ≡ standing.Absent
IsReadOf (Some file) limit standing.Absent = ⊥
IsReadOf (Some file) limit standing.TooLong = limit < length file.bytes
IsReadOf (Some file) limit (standing.File found) = found ≡ file

-- so much was read at these paths, and so much is left of the limit
pub record IsGathered (told : Option State) (paths : List (List ℕ)) (files : List Placed) (left : ℕ) : Type 0 where
  pub part : IsPart (paths_of files) paths
  pub some : byte_total files + left ≡ KEPT_LIMIT
  pub told_files : (s : State) → told ≡ Some s → files ≡ standing_files s.files paths

-- whatever paths come then, the files at all of them are too much
abbrev pub AreTooMuch : Option State → List (List ℕ) → List ℕ → Type 0
AreTooMuch told paths path = (s : State) (rest : List (List ℕ)) → told ≡ Some s → few_files s.files (paths ++ path ∷ rest) ≡ None

-- what may be kept of an entry with these paths
pub record IsKeepable (members : List Member) (pkg : Pkg) (paths : List (List ℕ)) (kept : KeptFiles) : Type 0 where
  pub opam : IsTrue (list_any (is_entry_with pkg kept.opam) (map member_entry members))
  pub part : IsPart (paths_of kept.files) paths
  pub short : length (record_bytes (Remove pkg (Some kept))) ≤ RECORD_LIMIT

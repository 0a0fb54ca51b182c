-- Opam texts that are accepted, and the files that a removal has kept of its package, as they stand in its record. This project's own.
use Rattle.std.specs.Prelude.{◌≡◌, ℕ, ◌≤◌, List, [], ◌∷◌, length, if◌then◌else◌, Bool, true, false, Result, IfOk, MatchOption}
use Rattle.std.specs.FinMap.{get}
use Rattle.std.specs.declared.option.Option.{Option}
use Rattle.std.specs.declared.option.Option.TheVariants.{None, Some}
use Rattle.opam_names.specs.declared.packages.Pkg.{Pkg}
use Rattle.syntax_trees.specs.Trees.{IsTextOf, items_of}
use Rattle.syntax_trees.specs.declared.file.File.{File}
use Rattle.opam_package.specs.FieldFaults.{file_faults}
use Rattle.opam_package.specs.declared.limits.TheConstants.{OPAM_LIMIT}
use Rattle.owner_map.specs.Owning.{is_same_pkg}
use Rattle.journal_text.specs.Records.{IsSpelledBy}
use Rattle.journal_text.specs.declared.record.KeptFiles.{KeptFiles}
use Rattle.journal_text.specs.declared.record.Rec.TheVariants.{Begin, End, Install, PutBack, Remove}
use Rattle.journal_text.specs.declared.record.Rec.{Rec}
use Rattle.crash_disk.specs.Disks as disks
use Rattle.crash_disk.specs.declared.disk.DiskFault.{DiskFault}
use Rattle.switch_journal.specs.Places.{record_path, text_of}
use Rattle.switch_journal.specs.declared.request.Done.{Done}
use Rattle.switch_journal.specs.declared.request.Done.TheVariants as done
use Rattle.switch_state.specs.State.{Request}

-- the text of an opam file of the package, not too long and without a fault
pub record IsOpamText (pkg : Pkg) (text : List ℕ) : Type 0 where
  pub short : length text ≤ OPAM_LIMIT
  pub file : File
  pub is_text : IsTextOf text file
  pub faultless : file_faults pkg (items_of file) ≡ []

-- the number of the record that removed the package, where one did
abbrev pub removal_number : Pkg → List Done → Option ℕ
removal_number pkg [] = None
removal_number pkg (done.Removed gone number kept ∷ more) = if is_same_pkg gone pkg then Some number else removal_number pkg more
removal_number pkg (done.Installed other ∷ more) = removal_number pkg more
removal_number pkg (done.PutBack other ∷ more) = removal_number pkg more

-- the same of an open request
abbrev pub removed_by : Pkg → Option Request → Option ℕ
removed_by pkg None = None
removed_by pkg (Some request) = removal_number pkg request.done

-- bytes that spell the removal of the package with these files kept, whose opam text is accepted
pub record IsKeptIn (pkg : Pkg) (text : List ℕ) (kept : KeptFiles) : Type 0 where
  pub spelled : IsSpelledBy (Remove pkg (Some kept)) text
  pub accepted : IsOpamText pkg kept.opam

-- files that were kept of the package, as the bytes of some record spell them
abbrev pub IsSomeKept : Pkg → KeptFiles → Type 0
IsSomeKept pkg kept = (text : List ℕ) × IsKeptIn pkg text kept

-- what is found in a file: these files where it is there and has them, and none exactly where it has none
abbrev pub IsFoundKept : Pkg → Option (List ℕ) → Option KeptFiles → Type 0
IsFoundKept pkg None found = found ≡ None
IsFoundKept pkg (Some text) found = MatchOption found ((kept : KeptFiles) → ¬ (IsKeptIn pkg text kept)) (λ kept. IsKeptIn pkg text kept)

-- the same of what a disk tells of the record with this number
abbrev pub TellsKept : Pkg → ℕ → Option disks.State → Result (Option KeptFiles) DiskFault → Type 0
TellsKept pkg number told result = (s : disks.State) → told ≡ Some s → IfOk result (λ found. IsFoundKept pkg (text_of (get s.files (record_path number))) found)

-- whether an opam text is accepted
abbrev pub SaysAccepted : Pkg → List ℕ → Bool → Type 0
SaysAccepted pkg text true = IsOpamText pkg text
SaysAccepted pkg text false = ¬ (IsOpamText pkg text)

-- what was kept of a package, if it is this one and its opam text is accepted
abbrev pub IsIfAccepted : Pkg → Pkg → KeptFiles → Option KeptFiles → Type 0
IsIfAccepted pkg gone kept None = ¬ ((gone ≡ pkg) × IsOpamText pkg kept.opam)
IsIfAccepted pkg gone kept (Some found) = (found ≡ kept) × (gone ≡ pkg) × IsOpamText pkg kept.opam

-- what a record keeps of the package
abbrev pub IsKeptBy : Pkg → Rec → Option KeptFiles → Type 0
IsKeptBy pkg (Remove gone None) found = found ≡ None
IsKeptBy pkg (Remove gone (Some kept)) found = IsIfAccepted pkg gone kept found
IsKeptBy pkg (Install other opam files) found = found ≡ None
IsKeptBy pkg (PutBack other opam files) found = found ≡ None
IsKeptBy pkg (Begin roots target removals) found = found ≡ None
IsKeptBy pkg End found = found ≡ None

-- What a removal keeps of its package, so that it can be put back. This project's own. It is kept where the request wants a package of
-- this name: the opam text, and the files that stand at the package's paths, unless they are too much.
use Rattle.std.specs.Prelude.{◌≡◌, ℕ, ◌+◌, List, [], ◌∷◌, length, Bool, false, nat_le, if◌then◌else◌}
use Rattle.std.specs.FinMap.{get}
use Rattle.std.specs.List.{filter_map, find, list_any}
use Rattle.std.specs.Option.{option_map}
use Rattle.std.specs.declared.option.Option.{Option}
use Rattle.std.specs.declared.option.Option.TheVariants.{None, Some}
use Rattle.opam_names.specs.declared.packages.Pkg.{Pkg}
use Rattle.opam_package.specs.declared.package.Member.{Member}
use Rattle.owner_map.specs.Owning.{is_same_pkg, paths_owned_by}
use Rattle.journal_text.specs.Records.{record_bytes}
use Rattle.journal_text.specs.declared.record.KeptFiles.{KeptFiles}
use Rattle.journal_text.specs.declared.record.Placed.{Placed}
use Rattle.journal_text.specs.declared.record.Rec.TheVariants.{Remove}
use Rattle.journal_text.specs.declared.record.TheConstants.{RECORD_LIMIT}
use Rattle.crash_disk.specs.Disks as disks
use Rattle.crash_disk.specs.Disks.{Kept, Tree}
use Rattle.switch_state.specs.Actions.{Removes}
use Rattle.switch_state.specs.Ends.{is_called}
use Rattle.switch_state.specs.Prepares.{IsPrepared}
use Rattle.switch_state.specs.State.{Now, Request, SwitchState}
use Rattle.switch_state.specs.declared.prepared.Prepared.{Prepared}
use Rattle.switch_state.specs.declared.removals.TheConstants.{KEPT_LIMIT}

-- a file of the disk, as a record has it
abbrev pub recorded : List ℕ → Kept → Placed
recorded path file = record { path = path; exec = file.exec; bytes = file.bytes }

-- the file that stands at a path
abbrev pub standing_file : Tree → List ℕ → Option Placed
standing_file tree path = option_map (recorded path) (get tree path)

-- the files that stand at these paths
abbrev pub standing_files : Tree → List (List ℕ) → List Placed
standing_files tree paths = filter_map (standing_file tree) paths

-- the bytes of files together
abbrev pub byte_total : List Placed → ℕ
byte_total [] = 0
byte_total (file ∷ files) = length file.bytes + byte_total files

-- the files at these paths, if they are not too much
abbrev pub few_files : Tree → List (List ℕ) → Option (List Placed)
few_files tree paths = if nat_le (byte_total (standing_files tree paths)) KEPT_LIMIT then Some (standing_files tree paths) else None

-- the open request wants a package of this name
abbrev pub wants : List ℕ → Option Request → Bool
wants name None = false
wants name (Some request) = list_any (is_called name) request.target

-- the member is that very package
abbrev pub is_member_of : Pkg → Member → Bool
is_member_of pkg member = is_same_pkg member.package.pkg pkg

-- the opam text and the files, if the record with them is not too long
abbrev pub kept_if_short : Pkg → KeptFiles → Option KeptFiles
kept_if_short pkg kept = if nat_le (length (record_bytes (Remove pkg (Some kept)))) RECORD_LIMIT then Some kept else None

-- what is kept of a member with these files
abbrev pub kept_with : Pkg → Option Member → Option (List Placed) → Option KeptFiles
kept_with pkg None files = None
kept_with pkg (Some member) None = None
kept_with pkg (Some member) (Some files) = kept_if_short pkg (record { opam = member.opam; files = files })

-- what is kept of a package whose files are these
abbrev pub kept_from : SwitchState → Pkg → Option (List Placed) → Option KeptFiles
kept_from state pkg files = if wants pkg.name state.request then kept_with pkg (find (is_member_of pkg) state.members) files else None

-- what the removal of a package keeps
abbrev pub kept_of : SwitchState → Pkg → Tree → Option KeptFiles
kept_of state pkg tree = kept_from state pkg (few_files tree (paths_owned_by pkg state.owned))

-- the removal was prepared for the switch as it is now, and keeps what it has to, where the disk tells its files
pub record IsRemovalPrepared (pkg : Pkg) (told : Option disks.State) (now : Now) (prepared : Prepared) : Type 0 where
  pub kept : Option KeptFiles
  pub keeps : (s : disks.State) → told ≡ Some s → kept ≡ kept_of now.state pkg s.files
  pub prepares : IsPrepared (Removes pkg kept) now prepared

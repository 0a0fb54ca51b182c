-- Whether a package is installed, once its needs are: by what its build brings, the owners of paths and the files of the disk. This
-- project's own.
use Rattle.std.specs.Prelude.{◌≡◌, ℕ, ◌+◌, ◌≤◌, List, [], ◌∷◌, length, Bool, false, not, nat_le, if◌then◌else◌}
use Rattle.std.specs.List.{list_any}
use Rattle.std.specs.declared.option.Option.{Option}
use Rattle.std.specs.declared.option.Option.TheVariants.{None, Some}
use Rattle.opam_names.specs.ByteOrders.{in_order_by}
use Rattle.opam_names.specs.declared.packages.Pkg.{Pkg}
use Rattle.path_order.specs.Apart.{meets}
use Rattle.owner_map.specs.Owning as owning
use Rattle.owner_map.specs.declared.owned.OwnedPath.{OwnedPath}
use Rattle.install_sections.specs.declared.limits.TheConstants.{ITEM_LIMIT}
use Rattle.journal_text.specs.Parts.{AreFree, is_own, paths_of}
use Rattle.journal_text.specs.declared.record.Placed.{Placed}
use Rattle.crash_disk.specs.Disks.{Tree}
use Rattle.switch_journal.specs.declared.request.TheConstants.{OWNED_LIMIT}
use Rattle.outside_io.specs.declared.workshop.Fate.{Fate}
use Rattle.change_verdict.specs.Clash.{first_clash_of}
use Rattle.change_verdict.specs.Sources.{AreSourcesOf, Folder}
use Rattle.change_verdict.specs.declared.limits.TheConstants.{FILES_LIMIT}
use Rattle.change_verdict.specs.declared.reason.Reason.{Reason}
use Rattle.change_verdict.specs.declared.reason.Reason.TheVariants.{SwitchFull}
use Rattle.change_verdict.specs.declared.verdict.Sources.{Sources}
use Rattle.change_verdict.specs.declared.verdict.Sources.TheVariants.{Found, Refused}
use Rattle.change_verdict.specs.declared.verdict.Verdict.{Verdict}
use Rattle.change_verdict.specs.declared.verdict.Verdict.TheVariants.{Places, Fails}

-- files in the byte order of their paths
abbrev pub in_path_order : List Placed → List Placed
in_path_order files = in_order_by (λ (file : Placed). file.path) files

-- the switch would own more paths than it may
abbrev pub would_be_full : List OwnedPath → List Placed → Bool
would_be_full owned files = not (nat_le (length owned + length files) OWNED_LIMIT)

-- files are placed where the switch has room for their paths
abbrev pub unless_full : List OwnedPath → List Placed → Verdict
unless_full owned files = if would_be_full owned files then Fails SwitchFull else Places (in_path_order files)

-- and where nothing stands in their way
abbrev pub unless_clash : Option Reason → Verdict → Verdict
unless_clash (Some reason) later = Fails reason
unless_clash None later = later

-- what is decided of a package whose build brings this
abbrev pub install_verdict : Tree → List OwnedPath → Pkg → Sources → Verdict
install_verdict tree owned pkg (Refused reason) = Fails reason
install_verdict tree owned pkg (Found files) = unless_clash (first_clash_of tree owned pkg (paths_of files)) (unless_full owned files)

-- the verdict on a package whose job came to this fate and left this folder
pub data IsVerdictOf (folder : Folder) (tree : Tree) (owned : List OwnedPath) (pkg : Pkg) (fate : Fate) : Verdict → Type 0 where
  by_sources : (sources : Sources) → AreSourcesOf folder pkg.name fate sources → IsVerdictOf folder tree owned pkg fate (install_verdict tree owned pkg sources)

-- ---- what holds of the files besides, whatever the disk tells

-- the bytes of files together
abbrev pub bytes_total : List Placed → ℕ
bytes_total [] = 0
bytes_total (file ∷ files) = length file.bytes + bytes_total files

-- files that a build brings are no more than a package may have, and none is the switch's own
pub record AreBrought (files : List Placed) : Type 0 where
  pub few : length files ≤ ITEM_LIMIT
  pub short : bytes_total files ≤ FILES_LIMIT
  pub free : list_any is_own (paths_of files) ≡ false

-- the same of what a build brings, where it brings files
abbrev pub IfFound : Sources → Type 0
IfFound (Found files) = AreBrought files
IfFound (Refused reason) = Unit {0}

-- a path meets an owned one: it is the same, above it or below it
abbrev pub meets_owner : List OwnedPath → List ℕ → Bool
meets_owner owned path = list_any (meets path) (owning.paths_of owned)

-- files that can come: they are no more than a package may have, they can stand in a record, none meets an owned path, and the
-- switch has room for them
pub record CanBePlaced (owned : List OwnedPath) (files : List Placed) : Type 0 where
  pub brought : AreBrought files
  pub ordered : AreFree (paths_of files)
  pub unmet : list_any (meets_owner owned) (paths_of files) ≡ false
  pub roomy : length owned + length files ≤ OWNED_LIMIT

-- the same of a verdict that places files
abbrev pub IfPlaces : List OwnedPath → Verdict → Type 0
IfPlaces owned (Places files) = CanBePlaced owned files
IfPlaces owned (Fails reason) = Unit {0}

-- What the build of a package brings: the files that its install file names, or why they cannot be had (opam manual, package
-- definitions: `.install` files; the limits are this project's own).
use Rattle.std.specs.Prelude.{◌≡◌, ◌≢◌, ℕ, ◌-◌, ◌<◌, ◌≤◌, List, [], ◌∷◌, ◌++◌, length, codes, nat_le, if◌then◌else◌}
use Rattle.std.specs.FinMap.{get}
use Rattle.std.specs.declared.option.Option.{Option}
use Rattle.std.specs.declared.option.Option.TheVariants.{None, Some}
use Rattle.install_sections.specs.Readings.{IsInstallText, IsRefusedInstall}
use Rattle.install_sections.specs.declared.fault.InstallFault.{InstallFault}
use Rattle.install_sections.specs.declared.fault.InstallFault.TheVariants.{Memory}
use Rattle.install_sections.specs.declared.placement.Placement.{Placement}
use Rattle.journal_text.specs.declared.record.Placed.{Placed}
use Rattle.outside_io.specs.Counts.{ByPath}
use Rattle.outside_io.specs.declared.workshop.Fate.{Fate}
use Rattle.outside_io.specs.declared.workshop.Fate.TheVariants.{Stopped, Built}
use Rattle.change_verdict.specs.declared.limits.TheConstants.{FILES_LIMIT, INSTALL_LIMIT}
use Rattle.change_verdict.specs.declared.reason.Reason.TheVariants.{Step, InstallUnreadable, InstallTooLong, InstallRefused, Missing, Unreadable, FilesTooLong}
use Rattle.change_verdict.specs.declared.sources.Source.{Source}
use Rattle.change_verdict.specs.declared.sources.Source.TheVariants.{File, Passed, Lacks}
use Rattle.change_verdict.specs.declared.verdict.Sources.{Sources}
use Rattle.change_verdict.specs.declared.verdict.Sources.TheVariants.{Found, Refused}

-- what stands in a build folder: bytes, or something that cannot be read
abbrev pub Folder : Type 0
Folder = ByPath (Option (List ℕ))

-- the install file of a package stands in its build folder under this name
abbrev pub install_path : List ℕ → List ℕ
install_path name = name ++ codes ".install"

-- where a placement puts its file
abbrev pub destination : Placement → List ℕ
destination placement = placement.dst

-- a file with these bytes, as its placement says
abbrev pub placed_as : Placement → List ℕ → Placed
placed_as placement bytes = record { path = placement.dst; exec = placement.exec; bytes = bytes }

-- one file before those that follow, where these can be had
abbrev pub and_file : Placed → Sources → Sources
and_file file (Found files) = Found (file ∷ files)
and_file file (Refused reason) = Refused reason

-- what one source gives, by what stands there and the bytes that there is room for
abbrev pub source_at : Placement → ℕ → Option (Option (List ℕ)) → Source
source_at placement room None = if placement.optional then Passed else Lacks (Missing placement.src)
source_at placement room (Some None) = Lacks (Unreadable placement.src)
source_at placement room (Some (Some bytes)) = if nat_le (length bytes) room then File (placed_as placement bytes) else Lacks FilesTooLong

-- what comes of it and of those after it, which have the room that it leaves
abbrev pub after_source : Source → ℕ → (ℕ → Sources) → Sources
after_source (File file) room later = and_file file (later (room - length file.bytes))
after_source Passed room later = later room
after_source (Lacks reason) room later = Refused reason

-- the files of placements, in their order, with at most so many bytes together; the first source that cannot be had is the reason
-- why there are none
abbrev pub files_of : Folder → ℕ → List Placement → Sources
files_of folder room [] = Found []
files_of folder room (placement ∷ placements) =
    after_source (source_at placement room (get folder placement.src)) room (λ left. files_of folder left placements)

-- what the text of an install file brings: the files of its placements, or the fault for which it is refused
pub data IsBroughtByText (folder : Folder) (name text : List ℕ) : Sources → Type 0 where
  accepted : (placements : List Placement) → IsInstallText text name placements → IsBroughtByText folder name text (files_of folder FILES_LIMIT placements)
  refused : (fault : InstallFault) → IsRefusedInstall text name fault → fault ≢ Memory → IsBroughtByText folder name text (Refused (InstallRefused fault))

-- by what stands under the name of the install file: an absent one places nothing
abbrev pub IsBroughtBy : Folder → List ℕ → Option (Option (List ℕ)) → Sources → Type 0
IsBroughtBy folder name None sources = sources ≡ Found []
IsBroughtBy folder name (Some None) sources = sources ≡ Refused InstallUnreadable
IsBroughtBy folder name (Some (Some text)) sources =
    (length text ≤ INSTALL_LIMIT → IsBroughtByText folder name text sources) × (INSTALL_LIMIT < length text → sources ≡ Refused InstallTooLong)

-- what the build of the package of this name brings, whose job came to this fate and left this folder
abbrev pub AreSourcesOf : Folder → List ℕ → Fate → Sources → Type 0
AreSourcesOf folder name (Stopped step ending) sources = sources ≡ Refused (Step step ending)
AreSourcesOf folder name Built sources = IsBroughtBy folder name (get folder (install_path name)) sources

-- The packages that an `install` needs are read from a repository, one after another. The order and the limits are this project's own.
use Rattle.std.specs.Prelude.{◌≡◌, ◌<◌, ◌≤◌, ℕ, ◌-◌, List, [], ◌++◌, length}
use Rattle.std.specs.FinMap.{get}
use Rattle.std.specs.declared.option.Option.{Option}
use Rattle.std.specs.declared.option.Option.TheVariants.{None, Some}
use Rattle.opam_names.specs.declared.packages.Pkg.{Pkg}
use Rattle.opam_filter.specs.Variables.{Values}
use Rattle.opam_package.specs.declared.fault.PackageFault.{PackageFault}
use Rattle.opam_package.specs.declared.package.Member.{Member}
use Rattle.outside_io.specs.Counts.{Files}
use Rattle.lock_check.specs.Chased.{Chased, IsNeeded, count_of, held_by_name, known_in, next_of, unknown_in}
use Rattle.lock_check.specs.declared.answer.Answer.{Answer}
use Rattle.lock_check.specs.declared.answer.Answer.TheVariants.{Known, Unknown}
use Rattle.folder_repo.specs.OpamPaths.{path_in_repo}
use Rattle.folder_repo.specs.Repository.{IsMemberFault, IsMemberOf}
use Rattle.folder_repo.specs.declared.fault.RepoFault.TheVariants as repo_fault
use Rattle.change_front.specs.declared.limits.TheConstants.{NAMES_LIMIT}
use Rattle.change_front.specs.declared.reading.End.{End}
use Rattle.change_front.specs.declared.reading.End.TheVariants.{Whole, Stops}
use Rattle.change_front.specs.declared.refusal.Refusal.{Refusal}
use Rattle.change_front.specs.declared.refusal.Refusal.TheVariants.{TooLong, BadOpam, TooManyPackages}

-- what the repository says of a package: a file stands there or none
pub data IsAnswered (pkg : Pkg) (room : ℕ) (globals : Values) : Option (List ℕ) → Answer → Type 0 where
  absent : IsAnswered pkg room globals None Unknown
  present : {bytes : List ℕ} {member : Member} → IsMemberOf bytes pkg room globals member → IsAnswered pkg room globals (Some bytes) (Known member)

-- why a package is refused: its file is too long for the room that is left, or has this fault
pub data IsPackageRefusal (path : List ℕ) (pkg : Pkg) (room : ℕ) : Option (List ℕ) → Refusal → Type 0 where
  too_long : {bytes : List ℕ} → IsMemberFault bytes pkg room repo_fault.TooLong → IsPackageRefusal path pkg room (Some bytes) (TooLong path)
  faulty : {bytes : List ℕ} {fault : PackageFault} → IsMemberFault bytes pkg room (repo_fault.Package fault) → IsPackageRefusal path pkg room (Some bytes) (BadOpam path fault)

-- the bytes that were read for an answer
abbrev pub bytes_read : Answer → ℕ
bytes_read Unknown = 0
bytes_read (Known member) = length member.opam

-- nothing was read yet
pub record IsBegun (installed : List Member) (bound : List Pkg) (names : List (List ℕ)) (chased : Chased) : Type 0 where
  pub begun_installed : chased.installed ≡ held_by_name installed
  pub begun_bound : chased.bound ≡ bound
  pub begun_asked : chased.asked ≡ names
  pub none_known : chased.known ≡ []
  pub none_unknown : chased.unknown ≡ []
  pub begun_needed : IsNeeded chased

-- the answer on the next package was noted, and what is needed is as it says
pub record IsAfter (before : Chased) (answer : Answer) (now : Chased) : Type 0 where
  pub same_installed : now.installed ≡ before.installed
  pub same_bound : now.bound ≡ before.bound
  pub same_asked : now.asked ≡ before.asked
  pub now_known : now.known ≡ before.known ++ known_in answer
  pub now_unknown : now.unknown ≡ before.unknown ++ unknown_in (next_of before) answer
  pub now_needed : IsNeeded now

-- from here on, with room for so many bytes. Names are counted before the next package is read, and each member that is read takes its
-- bytes off the room
pub data Reads (files : Files) (repo : List ℕ) (globals : Values) : Chased → ℕ → End → Type 0 where
  too_many : {chased : Chased} {room : ℕ} → NAMES_LIMIT < count_of chased → Reads files repo globals chased room (Stops TooManyPackages)
  whole : {chased : Chased} {room : ℕ} → count_of chased ≤ NAMES_LIMIT → next_of chased ≡ None → Reads files repo globals chased room (Whole chased)
  refused : {chased : Chased} {room : ℕ} {pkg : Pkg} {refusal : Refusal} → count_of chased ≤ NAMES_LIMIT → next_of chased ≡ Some pkg
      → IsPackageRefusal (path_in_repo repo pkg) pkg room (get files (path_in_repo repo pkg)) refusal → Reads files repo globals chased room (Stops refusal)
  one_more : {chased after : Chased} {room : ℕ} {pkg : Pkg} {answer : Answer} {end : End} → count_of chased ≤ NAMES_LIMIT → next_of chased ≡ Some pkg
      → IsAnswered pkg room globals (get files (path_in_repo repo pkg)) answer → IsAfter chased answer after
      → Reads files repo globals after (room - bytes_read answer) end → Reads files repo globals chased room end

-- What a repository answers for a package (opam manual, repositories). The limits are this project's own.
use Rattle.std.specs.Prelude.{◌≡◌, ◌≢◌, ◌<◌, ◌≤◌, ℕ, List, length, min, Bool, true, false, Result, Ok, Err}
use Rattle.std.specs.FinMap.{get}
use Rattle.std.specs.declared.option.Option.{Option}
use Rattle.std.specs.declared.option.Option.TheVariants.{None, Some}
use Rattle.opam_names.specs.declared.packages.Pkg.{Pkg}
use Rattle.opam_filter.specs.Variables.{Values}
use Rattle.opam_package.specs.PackageTexts.{IsPackageFault, IsPackageText}
use Rattle.opam_package.specs.declared.fault.PackageFault.{PackageFault}
use Rattle.opam_package.specs.declared.fault.PackageFault.TheVariants as faults
use Rattle.opam_package.specs.declared.limits.TheConstants.{OPAM_LIMIT}
use Rattle.opam_package.specs.declared.package.Member.{Member}
use Rattle.outside_io.specs.Counts.{Files}
use Rattle.outside_io.specs.declared.host.HostFault.{HostFault}
use Rattle.outside_io.specs.declared.host.HostFault.TheVariants as hosts
use Rattle.folder_repo.specs.OpamPaths.{path_in_repo}
use Rattle.folder_repo.specs.declared.fault.RepoFault.{RepoFault}
use Rattle.folder_repo.specs.declared.fault.RepoFault.TheVariants.{HostFailed, TooLong, Package, Memory}

-- how many bytes an opam file may have where so much room is left
abbrev pub read_limit : ℕ → ℕ
read_limit room = min room OPAM_LIMIT

-- the member has these bytes, and the package that they are of
pub record IsMemberOf (bytes : List ℕ) (pkg : Pkg) (room : ℕ) (globals : Values) (member : Member) : Type 0 where
  pub opam : member.opam ≡ bytes
  pub within : length bytes ≤ read_limit room
  pub read : IsPackageText bytes pkg globals member.package

-- why no member was made of these bytes: memory was wanting, they are too many, or this is what is wrong with them
pub data IsMemberFault (bytes : List ℕ) (pkg : Pkg) (room : ℕ) : RepoFault → Type 0 where
  no_memory : IsMemberFault bytes pkg room Memory
  too_long : read_limit room < length bytes → IsMemberFault bytes pkg room TooLong
  faulty : {fault : PackageFault} → length bytes ≤ read_limit room → fault ≢ faults.Memory → IsPackageFault bytes pkg fault → IsMemberFault bytes pkg room (Package fault)

-- what is answered where a file stands or none; that the host fails, or memory is wanting, can come in any case
pub data IsRepoAnswer (pkg : Pkg) (room : ℕ) (globals : Values) : Option (List ℕ) → Result (Option Member) RepoFault → Type 0 where
  failed : {stands : Option (List ℕ)} → IsRepoAnswer pkg room globals stands (Err HostFailed)
  starved : {stands : Option (List ℕ)} → IsRepoAnswer pkg room globals stands (Err Memory)
  absent : IsRepoAnswer pkg room globals None (Ok None)
  present : {bytes : List ℕ} {member : Member} → IsMemberOf bytes pkg room globals member → IsRepoAnswer pkg room globals (Some bytes) (Ok (Some member))
  refused : {bytes : List ℕ} {fault : RepoFault} → IsMemberFault bytes pkg room fault → IsRepoAnswer pkg room globals (Some bytes) (Err fault)

-- over a host that tells its files, it is what stands at the path
abbrev pub TellsAt : Option Files → List ℕ → Pkg → ℕ → Values → Result (Option Member) RepoFault → Type 0
TellsAt told path pkg room globals result =
    (files : Files) → told ≡ Some files → IsRepoAnswer pkg room globals (get files path) result

-- the same at the path of the package
abbrev pub RepoTells : Option Files → List ℕ → Pkg → ℕ → Values → Result (Option Member) RepoFault → Type 0
RepoTells told repo pkg room globals result = TellsAt told (path_in_repo repo pkg) pkg room globals result

-- over any host, a member that is found has the package that its own bytes are of
abbrev pub IsReadAlone : Pkg → ℕ → Values → Option Member → Type 0
IsReadAlone pkg room globals found = (member : Member) → found ≡ Some member → IsMemberOf member.opam pkg room globals member

-- what is answered for these bytes
abbrev pub IsReadOf : List ℕ → Pkg → ℕ → Values → Result (Option Member) RepoFault → Type 0
IsReadOf bytes pkg room globals (Ok None) = ⊥
IsReadOf bytes pkg room globals (Ok (Some member)) = IsMemberOf bytes pkg room globals member
IsReadOf bytes pkg room globals (Err fault) = IsMemberFault bytes pkg room fault

-- the host itself has failed
abbrev pub has_repo_failed : Result (Option Member) RepoFault → Bool
has_repo_failed (Ok found) = false
has_repo_failed (Err HostFailed) = true
has_repo_failed (Err TooLong) = false
has_repo_failed (Err (Package fault)) = false
has_repo_failed (Err Memory) = false

-- what is told of a fault of the host
abbrev pub told_host : HostFault → RepoFault
told_host hosts.Failed = HostFailed
told_host hosts.Memory = Memory

-- what is told of a fault of the file: want of memory as such
abbrev pub told_package : PackageFault → RepoFault
told_package faults.Memory = Memory
told_package fault = Package fault

-- What a request comes to before anything is changed: the first refusal, or a target with its plan. This project's own.
use Rattle.std.specs.Prelude.{◌≡◌, ◌⊎◌, ℕ, List, Bool, true, false, Contains, Result, Ok, Err}
use Rattle.std.specs.FinMap.{get}
use Rattle.std.specs.declared.option.Option.{Option}
use Rattle.std.specs.declared.option.Option.TheVariants.{Some}
use Rattle.opam_names.specs.declared.packages.Pkg.{Pkg}
use Rattle.opam_filter.specs.Variables.{Values}
use Rattle.opam_package.specs.PackageTexts.{IsPackageText}
use Rattle.opam_package.specs.declared.package.Member.{Member}
use Rattle.opam_package.specs.declared.package.Target.{Target}
use Rattle.outside_io.specs.Counts.{Files}
use Rattle.lock_check.specs.Chased.{Chased, install_target, install_violations}
use Rattle.lock_check.specs.Removals.{IsRemoved, remove_violations}
use Rattle.lock_check.specs.Targets.{reinstall_violations, reinstalled}
use Rattle.change_front.specs.Judging.{IsJudged}
use Rattle.change_front.specs.Locks.{IsLockAt, IsLockRefusal}
use Rattle.change_front.specs.Reading.{IsBegun, Reads}
use Rattle.change_front.specs.declared.fault.FrontFault.{FrontFault}
use Rattle.change_front.specs.declared.fault.FrontFault.TheVariants.{HostFailed, Refused, Memory}
use Rattle.change_front.specs.declared.front.Front.{Front}
use Rattle.change_front.specs.declared.front.Front.TheVariants.{Plans, Refuses}
use Rattle.change_front.specs.declared.front.Planned.{Planned}
use Rattle.change_front.specs.declared.limits.TheConstants.{READ_LIMIT}
use Rattle.change_front.specs.declared.reading.End.TheVariants.{Whole, Stops}
use Rattle.change_front.specs.declared.refusal.Refusal.{Refusal}

-- an `install`, once the lock is read: the first refusal among the packages that are read, or the judgement of the target
pub data IsInstallOf (files : Files) (repo : List ℕ) (bound : List Pkg) (names : List (List ℕ)) (installed : List Member) (roots : List (List ℕ)) (globals : Values) : Front → Type 0 where
  stopped : {begun : Chased} {refusal : Refusal} → IsBegun installed bound names begun → Reads files repo globals begun READ_LIMIT (Stops refusal)
      → IsInstallOf files repo bound names installed roots globals (Refuses refusal)
  judged : {begun last : Chased} {front : Front} → IsBegun installed bound names begun → Reads files repo globals begun READ_LIMIT (Whole last)
      → IsJudged installed (install_target last installed roots) (install_violations last (install_target last installed roots)) front
      → IsInstallOf files repo bound names installed roots globals front

-- an `install` where a host has these files: the lock comes first
pub data IsInstall (files : Files) (lock_file repo : List ℕ) (names : List (List ℕ)) (installed : List Member) (roots : List (List ℕ)) (globals : Values) : Front → Type 0 where
  unlocked : {refusal : Refusal} → IsLockRefusal lock_file (get files lock_file) refusal → IsInstall files lock_file repo names installed roots globals (Refuses refusal)
  locked : {bound : List Pkg} {front : Front} → IsLockAt globals bound (get files lock_file) → IsInstallOf files repo bound names installed roots globals front
      → IsInstall files lock_file repo names installed roots globals front

-- a `remove`: the judgement of what is left
abbrev pub IsRemove : List (List ℕ) → List Member → List (List ℕ) → Front → Type 0
IsRemove names installed roots front =
    (target : Target) × IsRemoved installed names roots target × IsJudged installed target (remove_violations installed names target.members) front

-- a `reinstall`: the judgement of the installed set
abbrev pub IsReinstall : List (List ℕ) → List Member → List (List ℕ) → Front → Type 0
IsReinstall names installed roots front = IsJudged installed (reinstalled installed names roots) (reinstall_violations installed names) front

-- an answer is the one of a definition; that the host has failed, or that memory is wanting, can come in any case
abbrev pub Answers : (Front → Type 0) → Result Planned FrontFault → Type 0
Answers front (Ok planned) = front (Plans planned)
Answers front (Err HostFailed) = Unit {0}
Answers front (Err (Refused refusal)) = front (Refuses refusal)
Answers front (Err Memory) = Unit {0}

-- over a host that tells its files it is that of an `install`
abbrev pub TellsInstall : Option Files → List ℕ → List ℕ → List (List ℕ) → List Member → List (List ℕ) → Values → Result Planned FrontFault → Type 0
TellsInstall told lock_file repo names installed roots globals result =
    (files : Files) → told ≡ Some files → Answers (IsInstall files lock_file repo names installed roots globals) result

-- the host itself has failed
abbrev pub has_front_failed : Result Planned FrontFault → Bool
has_front_failed (Ok planned) = false
has_front_failed (Err HostFailed) = true
has_front_failed (Err (Refused refusal)) = false
has_front_failed (Err Memory) = false

-- each member is an installed one, or its package is that of its own text
abbrev pub AreInstalledOrRead : List Member → Values → List Member → Type 0
AreInstalledOrRead installed globals members = (member : Member) → Contains members member
    → Contains installed member ⊎ IsPackageText member.opam member.package.pkg globals member.package

-- What reading and judging come to, step by step. This module is for private clauses.
use Rattle.std.specs.Prelude.{◌≡◌, ◌<◌, ◌≤◌, ◌⊎◌, ◌-◌, ℕ, List, length, Bool, true, false, Contains, Result, Ok, Err}
use Rattle.std.specs.FinMap.{get}
use Rattle.std.specs.declared.option.Option.{Option}
use Rattle.std.specs.declared.option.Option.TheVariants.{None, Some}
use Rattle.opam_names.specs.ByteOrders.{RisesBy}
use Rattle.opam_names.specs.declared.fault.OutOfMemory.{OutOfMemory}
use Rattle.opam_names.specs.declared.packages.Pkg.{Pkg}
use Rattle.opam_filter.specs.Sets.{Rises}
use Rattle.opam_filter.specs.Variables.{Values}
use Rattle.opam_package.specs.PackageTexts.{IsPackageText}
use Rattle.opam_package.specs.declared.package.Member.{Member}
use Rattle.outside_io.specs.Counts.{Files}
use Rattle.outside_io.specs.declared.host.HostFault.{HostFault}
use Rattle.outside_io.specs.declared.host.HostFault.TheVariants as host_fault
use Rattle.lock_check.specs.Chased.{Chased, IsAnswer, count_of, next_of}
use Rattle.lock_check.specs.Removals.{AreAmong}
use Rattle.lock_check.specs.Targets.{member_name}
use Rattle.lock_check.specs.declared.answer.Answer.{Answer}
use Rattle.lock_check.specs.declared.answer.Answer.TheVariants.{Known, Unknown}
use Rattle.action_graph.specs.Plans.{IsPlan}
use Rattle.folder_repo.specs.OpamPaths.{path_in_repo}
use Rattle.folder_repo.specs.declared.fault.RepoFault.{RepoFault}
use Rattle.folder_repo.specs.declared.fault.RepoFault.TheVariants as repo_fault
use Rattle.change_front.specs.Fronts.{AreInstalledOrRead}
use Rattle.change_front.specs.Judging.{texts_length}
use Rattle.change_front.specs.Locks.{IsLockAt, IsLockRefusal}
use Rattle.change_front.specs.Reading.{IsAfter, IsAnswered, IsPackageRefusal, bytes_read}
use Rattle.change_front.specs.declared.fault.FrontFault.{FrontFault}
use Rattle.change_front.specs.declared.fault.FrontFault.TheVariants as front_fault
use Rattle.change_front.specs.declared.front.Front.{Front}
use Rattle.change_front.specs.declared.front.Front.TheVariants.{Plans, Refuses}
use Rattle.change_front.specs.declared.front.Planned.{Planned}
use Rattle.change_front.specs.declared.limits.TheConstants.{NAMES_LIMIT, TEXTS_LIMIT}
use Rattle.change_front.specs.declared.locks.LockRead.{LockRead}
use Rattle.change_front.specs.declared.locks.LockRead.TheVariants as lock_read
use Rattle.change_front.specs.declared.reading.End.{End}
use Rattle.change_front.specs.declared.reading.End.TheVariants as ends
use Rattle.change_front.specs.declared.reading.Reader.{Reader}
use Rattle.change_front.specs.declared.reading.Reply.{Reply}
use Rattle.change_front.specs.declared.reading.Reply.TheVariants as replies
use Rattle.change_front.specs.declared.reading.Turn.{Turn}
use Rattle.change_front.specs.declared.reading.Turn.TheVariants as turns
use Rattle.change_front.specs.declared.refusal.Refusal.{Refusal}
use Rattle.change_front.specs.declared.refusal.Refusal.TheVariants.{TooLong, BadOpam, TooManyPackages}

-- the file of a lock was read: what it binds, or why it is refused
abbrev pub IsLockRead : Values → List ℕ → Option (List ℕ) → LockRead → Type 0
IsLockRead globals path stands (lock_read.Bound lock) = IsLockAt globals lock.bound stands
IsLockRead globals path stands (lock_read.Refused refusal) = IsLockRefusal path stands refusal

-- what it binds is in order
abbrev pub RisesWhereBound : LockRead → Type 0
RisesWhereBound (lock_read.Bound lock) = Rises lock.bound
RisesWhereBound (lock_read.Refused refusal) = Unit {0}

-- what is told of a package that was looked for
abbrev pub answer_of : Option Member → Answer
answer_of None = Unknown
answer_of (Some member) = Known member

-- why the file at a path is refused, where its fault is not one of the host
abbrev pub refusal_at : List ℕ → RepoFault → Option Refusal
refusal_at path repo_fault.HostFailed = None
refusal_at path repo_fault.TooLong = Some (TooLong path)
refusal_at path (repo_fault.Package fault) = Some (BadOpam path fault)
refusal_at path repo_fault.Memory = None

-- the fault is the host's own
abbrev pub has_fault_failed : RepoFault → Bool
has_fault_failed repo_fault.HostFailed = true
has_fault_failed repo_fault.TooLong = false
has_fault_failed (repo_fault.Package fault) = false
has_fault_failed repo_fault.Memory = false

-- the repository was asked for a package
abbrev pub IsReply : List ℕ → Pkg → ℕ → Values → Option (List ℕ) → Reply → Type 0
IsReply path pkg room globals stands (replies.Answered answer) = IsAnswered pkg room globals stands answer
IsReply path pkg room globals stands (replies.Refused refusal) = IsPackageRefusal path pkg room stands refusal

-- each member that an answer gives has the package of its own text
abbrev pub IsReadUnder : Values → Answer → Type 0
IsReadUnder globals Unknown = Unit {0}
IsReadUnder globals (Known member) = IsPackageText member.opam member.package.pkg globals member.package

-- over any host an answer is one on the package, and not longer than the room that is left
abbrev pub IsOwnAnswer : Pkg → ℕ → Values → Answer → Type 0
IsOwnAnswer pkg room globals answer = IsAnswer (Some pkg) answer × (bytes_read answer ≤ room) × IsReadUnder globals answer

abbrev pub IsOwnReply : Pkg → ℕ → Values → Reply → Type 0
IsOwnReply pkg room globals (replies.Answered answer) = IsOwnAnswer pkg room globals answer
IsOwnReply pkg room globals (replies.Refused refusal) = Unit {0}

-- the reader goes on after an answer
abbrev pub GoesOn : Files → List ℕ → Values → Reader → Reader → Type 0
GoesOn files repo globals before after = (pkg : Pkg) × (answer : Answer) × (count_of before.chase ≤ NAMES_LIMIT) × (next_of before.chase ≡ Some pkg)
    × IsAnswered pkg before.room globals (get files (path_in_repo repo pkg)) answer × IsAfter before.chase answer after.chase × (after.room ≡ before.room - bytes_read answer)

-- a package is refused
abbrev pub StopsAt : Files → List ℕ → Reader → Refusal → Type 0
StopsAt files repo before refusal = (pkg : Pkg) × (count_of before.chase ≤ NAMES_LIMIT) × (next_of before.chase ≡ Some pkg)
    × IsPackageRefusal (path_in_repo repo pkg) pkg before.room (get files (path_in_repo repo pkg)) refusal

-- one turn of the reader
abbrev pub IsTurn : Files → List ℕ → Values → Reader → Turn → Type 0
IsTurn files repo globals before (turns.On after) = GoesOn files repo globals before after
IsTurn files repo globals before (turns.End chase) = (count_of chase ≤ NAMES_LIMIT) × (next_of chase ≡ None) × (chase ≡ before.chase)
IsTurn files repo globals before (turns.Refused refusal) = ((NAMES_LIMIT < count_of before.chase) × (refusal ≡ TooManyPackages)) ⊎ StopsAt files repo before refusal

-- the same over any host, where nothing is told of files
abbrev pub IsOwnTurn : Values → Reader → Turn → Type 0
IsOwnTurn globals before (turns.On after) = (pkg : Pkg) × (answer : Answer) × (next_of before.chase ≡ Some pkg) × IsOwnAnswer pkg before.room globals answer × IsAfter before.chase answer after.chase
IsOwnTurn globals before (turns.End chase) = (count_of chase ≤ NAMES_LIMIT) × (next_of chase ≡ None) × (chase ≡ before.chase)
IsOwnTurn globals before (turns.Refused refusal) = Unit {0}

-- each of them has the package of its own text
abbrev pub AreRead : Values → List Member → Type 0
AreRead globals members = (member : Member) → Contains members member → IsPackageText member.opam member.package.pkg globals member.package

-- all that is needed was read, over any host
abbrev pub IsOwnEnd : Values → Chased → End → Type 0
IsOwnEnd globals begun (ends.Whole chase) = (count_of chase ≤ NAMES_LIMIT) × (next_of chase ≡ None) × (chase.installed ≡ begun.installed) × AreRead globals chase.known
IsOwnEnd globals begun (ends.Stops refusal) = Unit {0}

-- what holds of a plan however the host answers
pub record IsOwnPlan (installed : List Member) (globals : Values) (planned : Planned) : Type 0 where
  pub plan : IsPlan installed planned.target planned.plan
  pub rises : RisesBy member_name planned.target.members
  pub read : AreInstalledOrRead installed globals planned.target.members
  pub few : length planned.target.members ≤ NAMES_LIMIT
  pub short : texts_length planned.target.members ≤ TEXTS_LIMIT

abbrev pub IsOwnFront : List Member → Values → Front → Type 0
IsOwnFront installed globals (Plans planned) = IsOwnPlan installed globals planned
IsOwnFront installed globals (Refuses refusal) = Unit {0}

-- what is told of what was found, or of the host's own fault
abbrev pub told_front : Result Front HostFault → Result Planned FrontFault
told_front (Ok (Plans planned)) = Ok planned
told_front (Ok (Refuses refusal)) = Err (front_fault.Refused refusal)
told_front (Err host_fault.Failed) = Err front_fault.HostFailed
told_front (Err host_fault.Memory) = Err front_fault.Memory

-- the same of a call that no host is asked for
abbrev pub told_answer : Result Front OutOfMemory → Result Planned FrontFault
told_answer (Ok (Plans planned)) = Ok planned
told_answer (Ok (Refuses refusal)) = Err (front_fault.Refused refusal)
told_answer (Err fault) = Err front_fault.Memory

-- what holds of a plan whose members are installed ones
pub record IsPartPlan (installed : List Member) (planned : Planned) : Type 0 where
  pub plan : IsPlan installed planned.target planned.plan
  pub rises : RisesBy member_name planned.target.members
  pub among : AreAmong planned.target.members installed
  pub few : length planned.target.members ≤ length installed
  pub short : texts_length planned.target.members ≤ TEXTS_LIMIT

abbrev pub IsPartFront : List Member → Front → Type 0
IsPartFront installed (Plans planned) = IsPartPlan installed planned
IsPartFront installed (Refuses refusal) = Unit {0}

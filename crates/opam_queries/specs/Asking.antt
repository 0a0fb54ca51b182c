-- What a question does to the devices over which it is asked. This project's own. A word takes the ghost members of whole devices.
use Rattle.std.specs.Prelude.{◌≡◌, ◌≢◌, ◌⊎◌, ℕ, List, Bool, true, false, IsFalse, IsTrue, Result, Ok, Err}
use Rattle.std.specs.declared.option.Option.{Option}
use Rattle.std.specs.declared.option.Option.TheVariants.{None, Some}
use Rattle.opam_names.specs.Packages.{pkg_text}
use Rattle.opam_names.specs.declared.packages.Pkg.{Pkg}
use Rattle.command_words.specs.declared.command.Query.{Query}
use Rattle.command_words.specs.declared.command.Query.TheVariants as query
use Rattle.command_words.specs.declared.command.Shown.{Shown}
use Rattle.opam_package.specs.declared.fault.PackageFault.{PackageFault}
use Rattle.opam_package.specs.declared.package.Member.{Member}
use Rattle.outside_io.specs.Counts.{Files}
use Rattle.outside_io.specs.HostEffects.{HostFails, OnlyReadsHost}
use Rattle.outside_io.specs.declared.host.Found.{Found}
use Rattle.outside_io.specs.declared.host.Found.TheVariants as found
use Rattle.outside_io.specs.declared.host.Host as hosts
use Rattle.outside_io.specs.declared.host.HostFault.{HostFault}
use Rattle.outside_io.specs.declared.host.HostFault.TheVariants as host_fault
use Rattle.outside_io.specs.declared.sink.Sink as sinks
use Rattle.crash_disk.specs.Disks.{State, Tree}
use Rattle.crash_disk.specs.Stops.{StopsLeave}
use Rattle.crash_disk.specs.declared.disk.Disk as disks
use Rattle.folder_repo.specs.OpamPaths.{path_in_repo}
use Rattle.folder_repo.specs.declared.fault.RepoFault.{RepoFault}
use Rattle.folder_repo.specs.declared.fault.RepoFault.TheVariants as repo_fault
use Rattle.change_front.specs.declared.refusal.Refusal.TheVariants.{BadOpam, NotFound, TooLong}
use Rattle.package_vars.specs.declared.facts.Facts.{Facts}
use Rattle.action_report.specs.Queries.{show_text}
use Rattle.switch_journal.specs.Opening.{IsWhileOpening, TouchesLast}
use Rattle.run_answers.specs.Deliveries.{Answers}
use Rattle.run_answers.specs.Ends.{end_of, out_of}
use Rattle.run_answers.specs.Opening.{Causes, OnlyClaims, OpensClaiming, SaysTaken}
use Rattle.run_answers.specs.Stops.{refusal_stop}
use Rattle.run_answers.specs.declared.opening.Opened.{Opened}
use Rattle.run_answers.specs.declared.status.Status.{Status}
use Rattle.run_answers.specs.declared.stop.Stop.{Stop}
use Rattle.run_answers.specs.declared.stop.Stop.TheVariants.{DiskFailed, HostFailed, Locked, Memory, Refused}
use Rattle.opam_queries.specs.Replies.{Answered, IsLintAnswer, IsReply, IsShown, asked_entry, list_answer, nothing_found, run_globals, told_answer}

-- the question is one on the switch
abbrev pub opens_switch : Query → Bool
opens_switch query.List = true
opens_switch (query.Show repo what) = true
opens_switch (query.Lint file) = false

-- what is answered to a question
abbrev pub Replies : Query → Facts → Files → Tree → Option State → Answered → Type 0
Replies asked facts files tree told answer = IsReply facts files tree told asked answer

-- no device stopped it, the switch was not locked and memory was there, or else nothing is said
abbrev pub UnlessCut : (Answered → Type 0) → Answered → Type 0
UnlessCut P (Ok answer) = P (Ok answer)
UnlessCut P (Err (Refused cause text)) = P (Err (Refused cause text))
UnlessCut P (Err Locked) = Unit {0}
UnlessCut P (Err HostFailed) = Unit {0}
UnlessCut P (Err DiskFailed) = Unit {0}
UnlessCut P (Err Memory) = Unit {0}

-- the same over what devices tell
abbrev pub TellsReply : Query → Facts → Option Files → Option State → Option State → Answered → Type 0
TellsReply asked facts host before now answer = (files : Files) (s : State) → host ≡ Some files → before ≡ Some s
    → UnlessCut (Replies asked facts files s.files now) answer

-- an answer of which this holds was delivered with this status
pub record IsAnswered {O E : Type 0} (o : sinks.Ghosts O) (e : sinks.Ghosts E) (P : Answered → Type 0) (status : Status) (out_old out_new : O) (err_old err_new : E) : Type 0 where
  pub answer : Answered
  pub is : P answer
  pub delivered : Answers o e (end_of answer) (out_of answer) status out_old out_new err_old err_new

-- ---- for private clauses

-- it is this, or memory was wanting
abbrev pub OrMemory : Answered → Answered → Type 0
OrMemory expected answer = (answer ≡ expected) ⊎ (answer ≡ Err Memory)

-- the host stopped it
abbrev pub is_host_stop : Answered → Bool
is_host_stop (Ok answer) = false
is_host_stop (Err (Refused cause text)) = false
is_host_stop (Err Locked) = false
is_host_stop (Err HostFailed) = true
is_host_stop (Err DiskFailed) = false
is_host_stop (Err Memory) = false

-- a question was asked of the host alone
pub record AsksHost {H : Type 0} (h : hosts.Ghosts H) (P : Files → Answered → Type 0) (old new : H) (answer : Answered) : Type 0 where
  pub reads : OnlyReadsHost h old new
  pub fails : HostFails h (is_host_stop answer) old new
  pub disk : answer ≢ Err DiskFailed
  pub held : answer ≢ Err Locked
  pub told : (files : Files) → h.files old ≡ Some files → UnlessCut (P files) answer

-- the same after the switch was opened, if it was
abbrev pub AfterOpening : {H : Type 0} → hosts.Ghosts H → (Opened → Files → Answered → Type 0) → Result Opened Stop → H → H → Answered → Type 0
AfterOpening h P (Ok opened) old new answer = AsksHost h (P opened) old new answer
AfterOpening h P (Err stop) old new answer = (answer ≡ Err stop) × (new ≡ old)

-- `list`, after the switch was opened, if it was
abbrev pub ListsAfter : Result Opened Stop → Answered → Type 0
ListsAfter (Ok opened) answer = OrMemory (Ok (list_answer opened.switch.state)) answer
ListsAfter (Err stop) answer = answer ≡ Err stop

-- `list`: the switch was opened, and then it was answered
pub record ListsOpening {D : Type 0} (d : disks.Ghosts D) (facts : Facts) (old new : D) (answer : Answered) : Type 0 where
  pub opening : Result Opened Stop
  pub opens : OpensClaiming d (run_globals facts) old new opening
  pub given : ListsAfter opening answer

-- `show`: the same
pub record ShowsOpening {H D : Type 0} (h : hosts.Ghosts H) (d : disks.Ghosts D) (facts : Facts) (repo : List ℕ) (what : Shown) (host_old host_new : H) (disk_old disk_new : D) (answer : Answered) : Type 0 where
  pub opening : Result Opened Stop
  pub opens : OpensClaiming d (run_globals facts) disk_old disk_new opening
  pub given : AfterOpening h (λ opened files. IsShown files opened.globals repo opened.switch.state what (asked_entry what opened.switch.state.members)) opening host_old host_new answer

-- what is given where the repository answered so
abbrev pub IsGivenOf : List ℕ → Pkg → Result (Option Member) RepoFault → Answered → Type 0
IsGivenOf repo pkg (Ok None) answer = OrMemory (nothing_found (pkg_text pkg)) answer
IsGivenOf repo pkg (Ok (Some member)) answer = OrMemory (Ok (told_answer (show_text member None))) answer
IsGivenOf repo pkg (Err repo_fault.HostFailed) answer = answer ≡ Err HostFailed
IsGivenOf repo pkg (Err repo_fault.TooLong) answer = OrMemory (Err (refusal_stop (TooLong (path_in_repo repo pkg)))) answer
IsGivenOf repo pkg (Err (repo_fault.Package fault)) answer = OrMemory (Err (refusal_stop (BadOpam (path_in_repo repo pkg) fault))) answer
IsGivenOf repo pkg (Err repo_fault.Memory) answer = answer ≡ Err Memory

-- what is given for these bytes of a file, and that it is none of a device's stops
pub record LintsBytes (file bytes : List ℕ) (answer : Answered) : Type 0 where
  pub is : UnlessCut (IsLintAnswer file (Some bytes)) answer
  pub host : is_host_stop answer ≡ false
  pub disk : answer ≢ Err DiskFailed
  pub held : answer ≢ Err Locked

-- what is given where a file was found so
abbrev pub IsLintOf : List ℕ → Result Found HostFault → Answered → Type 0
IsLintOf file (Ok found.Absent) answer = OrMemory (nothing_found file) answer
IsLintOf file (Ok found.TooLong) answer = OrMemory (Err (refusal_stop (TooLong file))) answer
IsLintOf file (Ok (found.Bytes bytes)) answer = LintsBytes file bytes answer
IsLintOf file (Err host_fault.Failed) answer = answer ≡ Err HostFailed
IsLintOf file (Err host_fault.Memory) answer = answer ≡ Err Memory

-- a question was asked of all devices
pub record Asks {H D : Type 0} (h : hosts.Ghosts H) (d : disks.Ghosts D) (P : Files → Tree → Option State → Answered → Type 0) (opens : Bool) (host_old host_new : H) (disk_old disk_new : D) (answer : Answered) : Type 0 where
  pub reads : OnlyReadsHost h host_old host_new
  pub host : Causes HostFailed (h.faults host_old) (h.faults host_new) answer
  pub disk : Causes DiskFailed (d.faults disk_old) (d.faults disk_new) answer
  pub held : Causes Locked (d.held disk_old) (d.held disk_new) answer
  pub taken : IsTrue opens → SaysTaken (d.taken disk_old) answer
  pub idle : IsFalse opens → disk_new ≡ disk_old
  pub locked : answer ≡ Err Locked → OnlyClaims d disk_old disk_new
  pub touches : answer ≢ Err Locked → TouchesLast d disk_old disk_new
  pub crash : (s : State) → d.told disk_old ≡ Some s → StopsLeave d (IsWhileOpening s) disk_old disk_new
  pub told : (files : Files) (s : State) → h.files host_old ≡ Some files → d.told disk_old ≡ Some s → UnlessCut (P files s.files (d.told disk_new)) answer

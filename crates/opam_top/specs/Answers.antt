-- What a run answers. This project's own.
use Rattle.std.specs.Prelude.{◌≡◌, ◌≤◌, ℕ, List, [], Bool, true, false, IsFalse, codes, count_by, length, take, Result, Ok, Err, if◌then◌else◌}
use Rattle.std.specs.List.{flat_map, list_all}
use Rattle.std.specs.FinMap.{get}
use Rattle.std.specs.declared.option.Option.{Option}
use Rattle.std.specs.declared.option.Option.TheVariants.{Some}
use Rattle.opam_top.specs.Reports.{is_done, is_installed, line_of, report}
use Rattle.opam_top.specs.declared.decision.Decision.{Decision}
use Rattle.outside_io.specs.Counts.{Files, Quiet}
use Rattle.outside_io.specs.Sinks.{Got, GotPrefix}
use Rattle.outside_io.specs.Shops.{Told}
use Rattle.crash_disk.specs.Disks.{State, Tree}
use Rattle.opam_top.specs.Fronts.{front, members_for}
use Rattle.opam_top.specs.Holdings.{Holds, is_in_journal}
use Rattle.opam_top.specs.Outcomes.{Outcome, outcome, undecided}
use Rattle.opam_top.specs.Refusals.{status_of}
use Rattle.opam_top.specs.Switches.{empty_switch}
use Rattle.opam_top.specs.declared.change.Progress.{Progress}
use Rattle.opam_top.specs.declared.member.Member.{Member}
use Rattle.opam_top.specs.declared.request.Request.{Request}
use Rattle.opam_top.specs.declared.status.Ended.{Ended}
use Rattle.opam_top.specs.declared.status.Status.{Status}
use Rattle.opam_top.specs.declared.status.Status.TheVariants.{Done, Actions, HostFailed, DiskFailed, OutFailed, Memory}
use Rattle.opam_top.specs.declared.stops.Refusal.{Refusal}
use Rattle.opam_top.specs.declared.stops.Stop.{Stop}
use Rattle.opam_top.specs.declared.stops.Stop.TheVariants.{Host, Disk, Memory as NoMemory, Refused}

-- what the outside tells: the machine's files, the disk of the switch, and the workshop
pub record Outside : Type 0 where
  pub files : Files
  pub disk : State
  pub shop : Told

-- it is what these devices tell
pub record IsOutside (outside : Outside) (host_tells : Option Files) (disk_tells : Option State) (shop_tells : Option Told) : Type 0 where
  pub files : host_tells ≡ Some outside.files
  pub disk : disk_tells ≡ Some outside.disk
  pub shop : shop_tells ≡ Some outside.shop

-- how a run ends, what it writes to standard output and to standard error, whether it was refused, and what comes of its
-- change
pub record Run : Type 0 where
  pub status : Status
  pub out : List ℕ
  pub err : List ℕ
  pub refused : Bool
  pub change : Outcome

-- a change is done where each of its decisions is
abbrev pub status_by : List Decision → Status
status_by decisions = if list_all is_done decisions then Done else Actions

-- a run whose change came to this outcome
abbrev pub changed : Outcome → Run
changed o = record { status = status_by o.decisions; out = report o.decisions; err = []; refused = false; change = o }

-- a refused run writes to standard error alone, and leaves the switch as it was
abbrev pub of_front : Result (List Member) Refusal → Outside → Run
of_front (Err refusal) outside = record { status = status_of refusal.cause; out = []; err = refusal.err; refused = true; change = undecided (empty_switch outside.disk.files) }
of_front (Ok members) outside = changed (outcome outside.shop (empty_switch outside.disk.files) members)

-- the run of a request
abbrev pub run_of : Request → Outside → Run
run_of request outside = of_front (members_for request outside.files outside.disk.files) outside

-- the run of the words
abbrev pub run : List (List ℕ) → Outside → Run
run words outside = of_front (front words outside.files outside.disk.files) outside

-- how a run ends that a stop has ended early, and what is then said on standard error
abbrev pub status_by_stop : Stop → Status
status_by_stop Host = HostFailed
status_by_stop Disk = DiskFailed
status_by_stop NoMemory = Memory
status_by_stop (Refused refusal) = status_of refusal.cause

-- what is then said on standard error
abbrev pub text_by_stop : Stop → List ℕ
text_by_stop Host = codes "host fault\n"
text_by_stop Disk = codes "disk fault\n"
text_by_stop NoMemory = []
text_by_stop (Refused refusal) = refusal.err

-- the status of a run that came to this end
abbrev pub status_at_end : {T : Type 0} → Result T Stop → List Decision → Status
status_at_end (Ok x) decisions = status_by decisions
status_at_end (Err stop) decisions = status_by_stop stop

-- what is then on standard error
abbrev pub text_at_end : {T : Type 0} → Result T Stop → List ℕ
text_at_end (Ok x) = []
text_at_end (Err stop) = text_by_stop stop

-- what is then on standard output: the whole report, or the lines of what was decided
abbrev pub out_at_end : {T : Type 0} → Result T Stop → List Decision → List ℕ
out_at_end (Ok x) decisions = report decisions
out_at_end (Err stop) decisions = flat_map line_of decisions

-- how a run ends whose output failed: what else went wrong counts first
abbrev pub after_output_fault : Status → Status
after_output_fault Done = OutFailed
after_output_fault status = status

-- the status, where the output has failed or not
abbrev pub with_output : Bool → Status → Status
with_output true status = after_output_fault status
with_output false status = status

-- no device stopped it, and memory was there
abbrev pub goes_through : {T : Type 0} → Result T Stop → Bool
goes_through (Ok x) = true
goes_through (Err Host) = false
goes_through (Err Disk) = false
goes_through (Err NoMemory) = false
goes_through (Err (Refused refusal)) = true

-- what a run leaves on the disk
pub record LeftBy (run : Run) (old new : Tree) : Type 0 where
  -- one that was not refused leaves its records in the journal, and no gate after their last
  pub journal : run.refused ≡ false → Holds run.change.records new
  -- all else is as the switch has it
  pub others : (q : List ℕ) → IsFalse (is_in_journal q) → get new q ≡ get run.change.switch.files q
  -- one without a commit changes nothing
  pub idle : run.change.records ≡ [] → new ≡ old

-- a run that came to this end is the one of the definition
pub record IsRunOf {T : Type 0} (run : Run) (start : Tree) (end : Result T Stop) (progress : Progress) (disk : Option State) : Type 0 where
  pub status : run.status ≡ status_at_end end progress.decisions.items
  pub out : run.out ≡ out_at_end end progress.decisions.items
  pub err : run.err ≡ text_at_end end
  pub heard : progress.heard.items ≡ run.change.heard
  pub number : length progress.receipts.items ≡ length run.change.records
  pub left : (s : State) × (disk ≡ Some s) × LeftBy run start s.files

-- a run that the disk has stopped: the first decisions are reported and no summary, the receipts are those of what was
-- committed by them, and the jobs that were heard are the first ones, those of these decisions among them
pub record IsHalted (o : Outcome) (ended : Ended) (before now : ℕ) (old new : Option (List ℕ)) : Type 0 where
  pub reported : ℕ
  pub within : reported ≤ length o.decisions
  pub out : Quiet before now → Got old new (flat_map line_of (take reported o.decisions))
  pub out_part : GotPrefix old new (flat_map line_of (take reported o.decisions))
  pub receipts : length ended.receipts ≡ count_by is_installed (take reported o.decisions)
  pub jobs : ℕ
  pub heard : ended.heard ≡ take jobs o.heard
  pub enough : reported ≤ jobs

-- The opening of a switch: which opam texts are read, and in which order; for which files no switch is made; and what a switch that was
-- opened is. This project's own.
use Rattle.std.specs.Prelude.{◌≡◌, ◌⊎◌, ◌≤◌, ℕ, List, [], ◌∷◌, ◌++◌, length, map, Result, Ok, Err, IfSome}
use Rattle.std.specs.List.{All}
use Rattle.std.specs.Option.{option_map}
use Rattle.std.specs.declared.option.Option.{Option}
use Rattle.std.specs.declared.option.Option.TheVariants.{None, Some}
use Rattle.opam_filter.specs.Variables.{Values}
use Rattle.opam_package.specs.PackageTexts.{IsPackageText}
use Rattle.opam_package.specs.declared.limits.TheConstants.{OPAM_LIMIT}
use Rattle.opam_package.specs.declared.package.Member.{Member}
use Rattle.journal_text.specs.declared.record.Entry.{Entry}
use Rattle.crash_disk.specs.Disks as disks
use Rattle.crash_disk.specs.Disks.{Tree}
use Rattle.crash_disk.specs.Writes.{with_writes}
use Rattle.crash_disk.specs.declared.batch.Write.{Write}
use Rattle.crash_disk.specs.declared.disk.Disk.{Ghosts}
use Rattle.outside_io.specs.Counts.{Rose}
use Rattle.switch_journal.specs.Contents.{Contents, entry_of}
use Rattle.switch_journal.specs.Journal.{Head, IsReadAt}
use Rattle.switch_journal.specs.Reading.{BadAt, Reads, Says, standing_of}
use Rattle.switch_journal.specs.Snapshots.{IsSameSwitch}
use Rattle.switch_journal.specs.declared.fault.OpenFault.{OpenFault}
use Rattle.switch_journal.specs.declared.fault.OpenFault.TheVariants as journal
use Rattle.switch_journal.specs.declared.request.Open.{Open}
use Rattle.switch_journal.specs.declared.standing.Standing.{Standing}
use Rattle.switch_state.specs.OpamTexts.{IsOpamText}
use Rattle.switch_state.specs.State.{Now, Request, SwitchStands, SwitchState, contents_in, member_entry, open_of, request_in}
use Rattle.switch_state.specs.WellFormed.{IsWellFormed}
use Rattle.switch_state.specs.declared.fault.SwitchFault.{SwitchFault}
use Rattle.switch_state.specs.declared.fault.SwitchFault.TheVariants as fault
use Rattle.switch_state.specs.declared.recovery.MembersRead.{MembersRead}
use Rattle.switch_state.specs.declared.recovery.MembersRead.TheVariants as members
use Rattle.switch_state.specs.declared.recovery.RequestRead.{RequestRead}
use Rattle.switch_state.specs.declared.recovery.RequestRead.TheVariants as request
use Rattle.switch_state.specs.declared.request.OpenRequest.{OpenRequest}

-- ---- opam texts

-- a member of the open request's target comes from the record that begins the request
abbrev pub target_texts : Option Open → List Standing
target_texts None = []
target_texts (Some request) = map (standing_of request.from) request.target

-- the opam texts of a switch, each with the record or the slot from which it comes: what is installed, then the open request's target
abbrev pub texts_of : Contents → List Standing
texts_of c = c.standing ++ target_texts c.request

-- the text is one of its package, not too long and without a fault
abbrev pub IsAccepted : Standing → Type 0
IsAccepted s = IsOpamText s.entry.pkg s.entry.opam

-- of these the first whose text is not accepted comes from here
abbrev pub IsFirstRefused : List ℕ → List Standing → Type 0
IsFirstRefused path [] = ⊥
IsFirstRefused path (s ∷ more) = ((path ≡ s.from) × ¬ (IsAccepted s)) ⊎ (IsAccepted s × IsFirstRefused path more)

-- ---- which files are damaged

-- files of which no switch is made: they are no journal, and this is the first bad one; or they are one, an opam text in it is not
-- accepted, and the first such text comes from here
pub data IsDamagedAt (tree : Tree) (path : List ℕ) : Type 0 where
  no_journal : Reads tree (BadAt path) → IsDamagedAt tree path
  no_opam_text : {c : Contents} → Reads tree (Says c) → IsFirstRefused path (texts_of c) → IsDamagedAt tree path

-- files are damaged there where they are said to be, and not at all where a switch is made of them
abbrev pub TellsDamage : {T : Type 0} → Result T SwitchFault → Tree → Type 0
TellsDamage (Ok x) tree = (path : List ℕ) → ¬ (IsDamagedAt tree path)
TellsDamage (Err fault.DiskFailed) tree = Unit {0}
TellsDamage (Err fault.Memory) tree = Unit {0}
TellsDamage (Err (fault.Damaged path)) tree = IsDamagedAt tree path

-- ---- the disk's faults

-- their count has risen where the disk is said to have failed, and else it is as it was
abbrev pub CountsFault : {T : Type 0} → ℕ → ℕ → Result T SwitchFault → Type 0
CountsFault before now (Ok x) = now ≡ before
CountsFault before now (Err fault.DiskFailed) = Rose before now
CountsFault before now (Err fault.Memory) = now ≡ before
CountsFault before now (Err (fault.Damaged path)) = now ≡ before

-- besides, it never falls
pub record CountedRecovery {T : Type 0} (before now : ℕ) (result : Result T SwitchFault) : Type 0 where
  pub later : before ≤ now
  pub counted : CountsFault before now result

-- a disk's fault is answered only where one was counted, and one is counted only there
abbrev pub FailsRecovery : {D T : Type 0} → Ghosts D → D → D → Result T SwitchFault → Type 0
FailsRecovery g old new result = CountedRecovery (g.faults old) (g.faults new) result

-- ---- the switch

-- the member's opam text is not too long, and its package is what the text says by the variables of the run
pub record IsMemberRead (globals : Values) (member : Member) : Type 0 where
  pub short : length member.opam ≤ OPAM_LIMIT
  pub says : IsPackageText member.opam member.package.pkg globals member.package

-- so it is with what is installed and with the open request's target
pub record AreMembersRead (globals : Values) (state : SwitchState) : Type 0 where
  pub installed : All (IsMemberRead globals) state.members
  pub target : IfSome state.request (λ request. All (IsMemberRead globals) request.target)

-- a switch that was opened of these files: the journal read them with these contents and this work of its last record, the state is
-- what the contents say, and the switch stands for the disk with that work done
pub record OpensSwitch (now : Now) (tree : Tree) (told : Option disks.State) : Type 0 where
  pub contents : Contents
  pub work : List Write
  pub reads : IsReadAt now.head contents work tree
  pub same : IsSameSwitch (contents_in now.state) contents
  pub stands : SwitchStands now.head now.state (with_writes work tree) told

-- ---- for private clauses

-- these members were read of these texts, which are all accepted
pub record AreRead (globals : Values) (texts : List Standing) (members : List Member) : Type 0 where
  pub entries : map member_entry members ≡ map entry_of texts
  pub read : All (IsMemberRead globals) members
  pub accepted : All IsAccepted texts

-- a member of this text; none where it is not accepted
abbrev pub IsReadOf : Values → Entry → Option Member → Type 0
IsReadOf globals entry None = ¬ (IsOpamText entry.pkg entry.opam)
IsReadOf globals entry (Some member) = (member_entry member ≡ entry) × IsMemberRead globals member

-- the members of these texts, or the first that is refused
abbrev pub AreAllRead : Values → List Standing → MembersRead → Type 0
AreAllRead globals texts (members.Refused from) = IsFirstRefused from texts
AreAllRead globals texts (members.Whole read) = AreRead globals texts read

-- the same of texts that all come from one record
abbrev pub IsTargetRead : Values → List ℕ → List Entry → Option (List Member) → Type 0
IsTargetRead globals from target None = IsFirstRefused from (map (standing_of from) target)
IsTargetRead globals from target (Some read) = AreRead globals (map (standing_of from) target) read

-- a request with its target read
pub record IsOpenRead (globals : Values) (open_request : Option Open) (read : Option Request) : Type 0 where
  pub same : option_map open_of read ≡ open_request
  pub members : IfSome read (λ request. All (IsMemberRead globals) request.target)
  pub accepted : All IsAccepted (target_texts open_request)

abbrev pub IsRequestRead : Values → Option Open → RequestRead → Type 0
IsRequestRead globals open_request (request.Refused from) = IsFirstRefused from (target_texts open_request)
IsRequestRead globals open_request (request.Whole read) = IsOpenRead globals open_request (option_map request_in read)

-- the switch of a journal with these contents
pub record IsSwitchOf (globals : Values) (head : Head) (c : Contents) (now : Now) : Type 0 where
  pub head_is : now.head ≡ head
  pub same : IsSameSwitch (contents_in now.state) c
  pub formed : IsWellFormed now.state
  pub read : AreMembersRead globals now.state
  pub accepted : All IsAccepted (texts_of c)
  pub commits : now.commits ≡ 0

-- it, or where the first text comes from that is not accepted
abbrev pub IsMadeOf : Values → Head → Contents → Result Now SwitchFault → Type 0
IsMadeOf globals head c (Ok now) = IsSwitchOf globals head c now
IsMadeOf globals head c (Err fault.DiskFailed) = ⊥
IsMadeOf globals head c (Err fault.Memory) = Unit {0}
IsMadeOf globals head c (Err (fault.Damaged path)) = IsFirstRefused path (texts_of c)

-- what is told of a fault of the journal
abbrev pub told_fault : OpenFault → SwitchFault
told_fault journal.DiskFailed = fault.DiskFailed
told_fault (journal.NotAJournal path) = fault.Damaged path
told_fault journal.Memory = fault.Memory

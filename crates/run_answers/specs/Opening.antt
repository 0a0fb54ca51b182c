-- The opening of the switch of a run: its disk is claimed, and its journal is read. This project's own. A word takes the ghost members
-- of a whole disk, handed over as `D.Disk`.
use Rattle.std.specs.Prelude.{◌≡◌, ◌≢◌, ◌<◌, ◌≤◌, ◌↔◌, ◌⊎◌, ℕ, List, Bool, IsTrue, IfOk, Result, Ok, Err}
use Rattle.std.specs.declared.option.Option.{Option}
use Rattle.std.specs.declared.option.Option.TheVariants.{Some}
use Rattle.outside_io.specs.Counts.{Rose, last_count}
use Rattle.outside_io.specs.declared.sink.Failed.{Failed}
use Rattle.crash_disk.specs.Disks.{ClaimGives, State, Tree}
use Rattle.crash_disk.specs.Effects.{Fails}
use Rattle.crash_disk.specs.Stops.{StopsLeave}
use Rattle.crash_disk.specs.declared.disk.Claim.{Claim}
use Rattle.crash_disk.specs.declared.disk.Disk.{Ghosts}
use Rattle.opam_filter.specs.Variables.{Values}
use Rattle.switch_journal.specs.Opening.{IsWhileOpening, TouchesLast}
use Rattle.switch_state.specs.Recovery.{AreMembersRead, IsDamagedAt, OpensSwitch}
use Rattle.switch_state.specs.State.{Now}
use Rattle.switch_state.specs.WellFormed.{IsWellFormed}
use Rattle.switch_state.specs.declared.fault.SwitchFault.{SwitchFault}
use Rattle.switch_state.specs.declared.fault.SwitchFault.TheVariants as fault
use Rattle.run_answers.specs.Stops.{damage_stop}
use Rattle.run_answers.specs.declared.opening.Opened.{Opened}
use Rattle.run_answers.specs.declared.stop.Stop.{Stop}
use Rattle.run_answers.specs.declared.stop.Stop.TheVariants.{DiskFailed, HostFailed, Locked, Memory, Refused}

-- a call stops so only where the count has risen, and the count rises only there
pub record Causes {T : Type 0} (stop : Stop) (before now : ℕ) (result : Result T Stop) : Type 0 where
  pub later : before ≤ now
  pub rose : result ≡ Err stop → Rose before now
  pub same : result ≢ Err stop → now ≡ before

-- a switch is locked exactly where another has claimed its disk, as long as the disk does not fail
abbrev pub SaysTaken : {T : Type 0} → Option Bool → Result T Stop → Type 0
SaysTaken told result = (taken : Bool) → told ≡ Some taken → result ≢ Err DiskFailed → (result ≡ Err Locked) ↔ IsTrue taken

-- time goes on, and nothing has changed at any moment but how often a claim was refused
pub record OnlyClaims {D : Type 0} (g : Ghosts D) (old new : D) : Type 0 where
  pub later : g.moment old ≤ g.moment new
  pub keeps : (t : ℕ) → t ≤ g.moment old → g.moment new < last_count → g.past new t ≡ g.past old t
  pub taken : g.taken new ≡ g.taken old
  pub same : g.told new ≡ g.told old
  pub each : g.moment new < last_count → (t : ℕ) → g.moment old < t → t ≤ g.moment new → g.past new t ≡ g.told old

-- a switch is said to be damaged exactly where its files are, with the path
abbrev pub SaysDamage : {T : Type 0} → Tree → Result T Stop → Type 0
SaysDamage tree (Ok x) = (path : List ℕ) → ¬ (IsDamagedAt tree path)
SaysDamage tree (Err (Refused cause text)) = (path : List ℕ) × IsDamagedAt tree path × (Refused cause text ≡ damage_stop path)
SaysDamage tree (Err Locked) = Unit {0}
SaysDamage tree (Err HostFailed) = Unit {0}
SaysDamage tree (Err DiskFailed) = Unit {0}
SaysDamage tree (Err Memory) = Unit {0}

-- ---- for private clauses

-- a claim, over all that a disk tells
pub record Claims {D : Type 0} (g : Ghosts D) (old new : D) (result : Result Claim Failed) : Type 0 where
  pub cause : Fails g old new result
  pub held : ClaimGives (g.held old) (g.held new) (g.taken old) result
  pub only : OnlyClaims g old new

-- what is given where a switch was recovered so; want of memory may take the place of what is told of damage
abbrev pub IsGivenFor : Values → Result Now SwitchFault → Result Opened Stop → Type 0
IsGivenFor globals (Ok now) given = given ≡ Ok (record { switch = now; globals = globals })
IsGivenFor globals (Err fault.DiskFailed) given = given ≡ Err DiskFailed
IsGivenFor globals (Err fault.Memory) given = given ≡ Err Memory
IsGivenFor globals (Err (fault.Damaged path)) given = (given ≡ Err (damage_stop path)) ⊎ (given ≡ Err Memory)

-- a switch was opened, or why it was not
pub record Opens {D : Type 0} (g : Ghosts D) (globals : Values) (old new : D) (result : Result Opened Stop) : Type 0 where
  pub disk : Causes DiskFailed (g.faults old) (g.faults new) result
  pub unlocked : result ≢ Err Locked
  pub host : result ≢ Err HostFailed
  pub touches : TouchesLast g old new
  pub under : IfOk result (λ opened. opened.globals ≡ globals)
  pub stands : (s : State) → g.told old ≡ Some s → IfOk result (λ opened. OpensSwitch opened.switch s.files (g.told new))
  pub formed : IfOk result (λ opened. IsWellFormed opened.switch.state)
  pub members : IfOk result (λ opened. AreMembersRead opened.globals opened.switch.state)
  pub commits : IfOk result (λ opened. opened.switch.commits ≡ 0)
  pub damaged : (s : State) → g.told old ≡ Some s → SaysDamage s.files result
  pub crash : (s : State) → g.told old ≡ Some s → StopsLeave g (IsWhileOpening s) old new

-- the same, with a claim before it
pub record OpensClaiming {D : Type 0} (g : Ghosts D) (globals : Values) (old new : D) (result : Result Opened Stop) : Type 0 where
  pub disk : Causes DiskFailed (g.faults old) (g.faults new) result
  pub held : Causes Locked (g.held old) (g.held new) result
  pub taken : SaysTaken (g.taken old) result
  pub locked : result ≡ Err Locked → OnlyClaims g old new
  pub host : result ≢ Err HostFailed
  pub touches : result ≢ Err Locked → TouchesLast g old new
  pub under : IfOk result (λ opened. opened.globals ≡ globals)
  pub stands : (s : State) → g.told old ≡ Some s → IfOk result (λ opened. OpensSwitch opened.switch s.files (g.told new))
  pub formed : IfOk result (λ opened. IsWellFormed opened.switch.state)
  pub members : IfOk result (λ opened. AreMembersRead opened.globals opened.switch.state)
  pub commits : IfOk result (λ opened. opened.switch.commits ≡ 0)
  pub damaged : (s : State) → g.told old ≡ Some s → SaysDamage s.files result
  pub crash : (s : State) → g.told old ≡ Some s → StopsLeave g (IsWhileOpening s) old new

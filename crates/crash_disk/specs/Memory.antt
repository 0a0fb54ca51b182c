-- What a disk in memory shows. This project's own.
use Rattle.std.specs.Prelude.{◌≡◌, ◌⊎◌, ℕ, ◌+◌, ◌==◌, List, Bool, min}
use Rattle.std.specs.List.{list_any}
use Rattle.std.specs.declared.option.Option.{Option}
use Rattle.std.specs.declared.option.Option.TheVariants.{Some}
use Rattle.outside_io.specs.Counts.{Rose, last_count}
use Rattle.crash_disk.specs.Disks.{State}
use Rattle.crash_disk.specs.Log.{first_state, loosened, replay, until}
use Rattle.crash_disk.specs.Spots.{Spot, spot_at}
use Rattle.crash_disk.specs.declared.memory_disk.MemoryDisk.{MemoryDisk}

-- its state now and at each moment, what is known of each path at each moment, the calls that are to fail, and its counts
pub record Shown : Type 0 where
  pub state : State
  pub past : ℕ → State
  pub spot : ℕ → List ℕ → Spot
  pub fail : List ℕ
  pub calls : ℕ
  pub faults : ℕ
  pub starved : ℕ
  pub held : ℕ
  pub taken : Bool

-- what is shown of a disk
abbrev pub shown : MemoryDisk → Shown
shown d = record {
  state = replay d.log (first_state d.first.items);
  past = λ t. replay (until t d.log) (first_state d.first.items);
  spot = λ t q. spot_at d.first.items (until t d.log) q;
  fail = d.fail.items;
  calls = d.calls;
  faults = d.faults;
  starved = d.starved;
  held = d.held;
  taken = d.taken;
}

-- the next call is one of those that are to fail
abbrev pub fails_next : Shown → Bool
fails_next s = list_any (λ n. n == min (s.calls + 1) last_count) s.fail

-- it tells all that it is asked for
abbrev pub told_now : Shown → Option State
told_now s = Some s.state

-- what it tells of a moment
abbrev pub told_at : Shown → ℕ → Option State
told_at s t = Some (s.past t)

-- what it tells of a claim
abbrev pub told_taken : Shown → Option Bool
told_taken s = Some s.taken

-- a failed change leaves the path loose, or nothing new where memory to say so was refused
abbrev pub FailsLoose : List ℕ → Shown → Shown → Type 0
FailsLoose path before now = (now.state ≡ loosened path before.state) ⊎ ((now.state ≡ before.state) × Rose before.starved now.starved)

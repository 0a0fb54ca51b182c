-- What a workshop tells, and the fate of a job. This project's own.
use Rattle.std.specs.Prelude.{◌≡◌, ◌<◌, ◌≤◌, ◌+◌, ℕ, zero, suc, List, length, Result, IfOk, ◌==◌, if◌then◌else◌}
use Rattle.std.specs.FinMap.{get}
use Rattle.std.specs.declared.option.Option.{Option}
use Rattle.std.specs.declared.option.Option.TheVariants.{None, Some}
use Rattle.opam_names.specs.declared.fault.OutOfMemory.{OutOfMemory}
use Rattle.outside_io.specs.Counts.{ByPath}
use Rattle.outside_io.specs.declared.workshop.Job.{Job}
use Rattle.outside_io.specs.declared.workshop.Ending.{Ending}
use Rattle.outside_io.specs.declared.workshop.Ending.TheVariants.{Exit, Killed, NotStarted, NotPrepared}
use Rattle.outside_io.specs.declared.workshop.Seen.{Seen}
use Rattle.outside_io.specs.declared.workshop.Seen.TheVariants.{Absent, Bytes, TooLong, Unreadable}
use Rattle.outside_io.specs.declared.workshop.Fate.{Fate}
use Rattle.outside_io.specs.declared.workshop.Fate.TheVariants.{Stopped, Built}

-- of each job: the ending of each step, and what stands in its build folder, None for what cannot be read
pub record Told : Type 0 where
  pub ending : Job → ℕ → Ending
  pub files : Job → ByPath (Option (List ℕ))

-- step 0 prepares the folder, and the others are commands
abbrev pub IsEndingOf : ℕ → Ending → Type 0
IsEndingOf step (Exit code) = step ≡ 0 → code ≡ 0
IsEndingOf step Killed = 0 < step
IsEndingOf step NotStarted = 0 < step
IsEndingOf step NotPrepared = step ≡ 0

-- a workshop that tells gives the step its told ending
abbrev pub StepTells : Option Told → Job → ℕ → Result Ending OutOfMemory → Type 0
StepTells shop job step result = (told : Told) → shop ≡ Some told → IfOk result (λ ending. ending ≡ told.ending job step)

-- what is seen where this stands
abbrev pub IsSeen : Option (Option (List ℕ)) → ℕ → Seen → Type 0
IsSeen None limit seen = seen ≡ Absent
IsSeen (Some None) limit seen = seen ≡ Unreadable
IsSeen (Some (Some file)) limit Absent = ⊥
IsSeen (Some (Some file)) limit (Bytes bytes) = (bytes ≡ file) × (length file ≤ limit)
IsSeen (Some (Some file)) limit TooLong = limit < length file
IsSeen (Some (Some file)) limit Unreadable = ⊥

-- a workshop that tells answers what stands at the path
abbrev pub ReadTells : Option Told → Job → List ℕ → ℕ → Result Seen OutOfMemory → Type 0
ReadTells shop job path limit result = (told : Told) → shop ≡ Some told → IfOk result (λ seen. IsSeen (get (told.files job) path) limit seen)

-- a step that does not end in `Exit(0)` ends the job
abbrev pub by_ending : ℕ → Ending → Fate → Fate
by_ending step (Exit code) later = if code == 0 then later else Stopped step (Exit code)
by_ending step Killed later = Stopped step Killed
by_ending step NotStarted later = Stopped step NotStarted
by_ending step NotPrepared later = Stopped step NotPrepared

-- the fate from a step on, with so many left
abbrev pub fate_from : (ℕ → Ending) → ℕ → ℕ → Fate
fate_from ending step zero = Built
fate_from ending step (suc left) = by_ending step (ending step) (fate_from ending (step + 1) left)

-- step 0 prepares, and then come the commands
abbrev pub fate_of : Told → Job → Fate
fate_of told job = fate_from (told.ending job) 0 (length job.commands + 1)

-- The fate of a job, by its first step that does not end in `Exit 0`. This project's own.
use Rattle.std.specs.Prelude.{◌≡◌, ◌≢◌, ◌<◌, ◌≤◌, ◌↔◌, ℕ, length}
use Rattle.outside_io.specs.Shops.{Told, fate_of}
use Rattle.outside_io.specs.declared.workshop.Job.{Job}
use Rattle.outside_io.specs.declared.workshop.Ending.{Ending}
use Rattle.outside_io.specs.declared.workshop.Ending.TheVariants.{Exit}
use Rattle.outside_io.specs.declared.workshop.Fate.TheVariants.{Stopped, Built}

-- of the steps from 0 to the number of commands, this is the first that does not end in `Exit 0`, and it ends so
pub record IsFirstStop (told : Told) (job : Job) (step : ℕ) (ending : Ending) : Type 0 where
  pub within : step ≤ length job.commands
  pub ends : told.ending job step ≡ ending
  pub stops : ending ≢ Exit 0
  pub first : (earlier : ℕ) → earlier < step → told.ending job earlier ≡ Exit 0

-- each of these steps ends in `Exit 0`
abbrev pub AllEndWell : Told → Job → Type 0
AllEndWell told job = (step : ℕ) → step ≤ length job.commands → told.ending job step ≡ Exit 0

-- a job stops exactly at its first such step, and is built exactly where each step ends well
pub record IsLeastFate (told : Told) (job : Job) : Type 0 where
  pub stopped : (step : ℕ) (ending : Ending) → (fate_of told job ≡ Stopped step ending) ↔ IsFirstStop told job step ending
  pub built : (fate_of told job ≡ Built) ↔ AllEndWell told job

-- that holds of each job, whatever a workshop tells
abbrev pub FatesAreLeast : Type 0
FatesAreLeast = (told : Told) (job : Job) → IsLeastFate told job

-- What a crew runs, and how a job leaves it. This project's own.
use Rattle.std.specs.Prelude.{◌≡◌, ◌≢◌, ◌++◌, ℕ, List, [], ◌∷◌, All, remove, slice_get, Result, IfOk}
use Rattle.std.specs.declared.option.Option.{Option}
use Rattle.std.specs.declared.option.Option.TheVariants.{Some}
use Rattle.opam_names.specs.declared.fault.OutOfMemory.{OutOfMemory}
use Rattle.outside_io.specs.Shops.{Told, fate_of}
use Rattle.outside_io.specs.declared.workshop.Job.{Job}
use Rattle.outside_io.specs.declared.workshop.Fate.{Fate}
use Rattle.child_pool.specs.declared.crew.Event.{Event}
use Rattle.child_pool.specs.declared.crew.Event.TheVariants.{Start, End}

-- jobs by their numbers, in the order of their starts
abbrev pub Running : Type 0
Running = List (ℕ × Job)

-- no job was started by this number
abbrev pub IsFresh : ℕ → List Event → Type 0
IsFresh id events = All (λ event. event ≢ Start id) events

-- if the shop tells, this is the told fate of the job
abbrev pub TellsFate : Option Told → Job → Fate → Type 0
TellsFate shop job fate = (told : Told) → shop ≡ Some told → fate ≡ fate_of told job

-- the job at this place is taken: it leaves those that run, its end is noted, and its number and fate are answered,
-- or nothing for want of memory
pub record TakesAt (place : ℕ) (shop : Option Told) (old new : Running) (before after : List Event) (result : Result (ℕ × Fate) OutOfMemory) : Type 0 where
  pub id : ℕ
  pub job : Job
  pub ran : slice_get old place ≡ Some (id, job)
  pub left : new ≡ remove old place
  pub ended : after ≡ before ++ End id ∷ []
  pub number : IfOk result (λ answer. answer.0 ≡ id)
  pub fate : IfOk result (λ answer. TellsFate shop job answer.1)

-- one of the running jobs is taken so
abbrev pub TakesOne : Option Told → Running → Running → List Event → List Event → Result (ℕ × Fate) OutOfMemory → Type 0
TakesOne shop old new before after result = (place : ℕ) × TakesAt place shop old new before after result

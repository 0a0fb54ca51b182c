-- What the parts of a pool promise. This project's own.
use Rattle.std.specs.Prelude.{◌≡◌, ◌<◌, ◌-◌, ◌^◌, ℕ, List, All, map, length, Result, Ok}
use Rattle.std.specs.declared.option.Option.{Option}
use Rattle.opam_names.specs.declared.fault.OutOfMemory.{OutOfMemory}
use Rattle.outside_io.specs.Shops.{Told}
use Rattle.outside_io.specs.declared.workshop.Job.{Job}
use Rattle.child_pool.specs.Crews.{Running}

-- the jobs of these threads, by their numbers
abbrev pub jobs_of : {X : Type 0} → (X → ℕ) → (X → Job) → List X → Running
jobs_of number job children = map (λ child. (number child, job child)) children

-- what starts a thread may be called for each job whose commands fit, and gives that very job by its number, in the shop
-- that is told; and in that shop are those that run
pub record IsFit {X : Type 0} (number : X → ℕ) (job : X → Job) (tells : X → Option Told) (shop : Option Told) (pre : ℕ → ℕ → Job → Type 0) (post : ℕ → ℕ → Job → Result X OutOfMemory → Type 0) (children : List X) : Type 0 where
  pub callable : (place id : ℕ) (j : Job) → place < 2 ^ 32 → id < 2 ^ 32 → length j.commands < 2 ^ 32 - 1 → pre place id j
  pub begun : (place id : ℕ) (j : Job) (child : X) → place < 2 ^ 32 → id < 2 ^ 32 → length j.commands < 2 ^ 32 - 1 → post place id j (Ok child) → (number child ≡ id) × (job child ≡ j) × (tells child ≡ shop)
  pub run : All (λ child. tells child ≡ shop) children

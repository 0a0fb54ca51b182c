-- How all that still runs is taken in. This project's own.
use Rattle.std.specs.Prelude.{◌≡◌, ℕ, zero, suc, List, [], ◌∷◌, ◌++◌, Result, Ok, Err}
use Rattle.std.specs.declared.option.Option.{Option}
use Rattle.opam_names.specs.declared.fault.OutOfMemory.{OutOfMemory}
use Rattle.outside_io.specs.Shops.{Told}
use Rattle.outside_io.specs.declared.workshop.Fate.{Fate}
use Rattle.child_pool.specs.Crews.{Running, TakesOne}
use Rattle.child_pool.specs.declared.crew.Event.{Event}

-- the number and the fate of a job that was taken in, unless memory was refused
abbrev pub known_fate : Result (ℕ × Fate) OutOfMemory → List (ℕ × Fate)
known_fate (Ok answer) = answer ∷ []
known_fate (Err refused) = []

-- so many jobs are taken in, one after the other, and these are the fates that are known
abbrev pub Drained : ℕ → Option Told → Running → Running → List Event → List Event → List (ℕ × Fate) → Type 0
Drained zero shop old new before after fates = (new ≡ old) × (after ≡ before) × (fates ≡ [])
Drained (suc count) shop old new before after fates =
    (running : Running) × (events : List Event) × (known : List (ℕ × Fate)) × (result : Result (ℕ × Fate) OutOfMemory)
    × Drained count shop old running before events known × TakesOne shop running new events after result × (fates ≡ known ++ known_fate result)

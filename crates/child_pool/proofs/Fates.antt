-- How the steps of a job lead to its fate.
use Rattle.std.proofs.Common.{◌≡◌, ◌≢◌, ℕ, suc, ◌+◌, sym, ◌∙◌, ap, Some, Option}
use Rattle.outside_io.proofs.LeastFates.{stop_at}
use Rattle.outside_io.specs.Shops.{Told, by_ending, fate_from, fate_of}
use Rattle.outside_io.specs.declared.workshop.Job.{Job}
use Rattle.outside_io.specs.declared.workshop.Ending.{Ending}
use Rattle.outside_io.specs.declared.workshop.Ending.TheVariants.{Exit}
use Rattle.outside_io.specs.declared.workshop.Fate.TheVariants.{Stopped}
use Rattle.child_pool.specs.Crews.{TellsFate}

-- if the shop tells, the steps from this one on, so many, give the fate of the job
abbrev pub LeadsToFate : Option Told → Job → ℕ → ℕ → Type 0
LeadsToFate shop job step left = (told : Told) → shop ≡ Some told → fate_from (told.ending job) step left ≡ fate_of told job

-- what a shop that tells answers at a step
abbrev pub IsTold : Option Told → Job → ℕ → Ending → Type 0
IsTold shop job step ending = (told : Told) → shop ≡ Some told → ending ≡ told.ending job step

-- a good step leads on
pub goes_on : (shop : Option Told) (job : Job) (step left more : ℕ) (ending : Ending) → IsTold shop job step ending → ending ≡ Exit 0 → left ≡ suc more → LeadsToFate shop job step left → LeadsToFate shop job (step + 1) more
goes_on shop job step left more ending answers good one leads = λ told tells.
    let here : fate_from (told.ending job) step (suc more) ≡ fate_from (told.ending job) (step + 1) more = ap (λ (e : Ending). by_ending step e (fate_from (told.ending job) (step + 1) more)) (sym (answers told tells) ∙ good) in
    sym here ∙ ap (fate_from (told.ending job) step) (sym one) ∙ leads told tells

-- the first other one is where the job stops
pub stops : (shop : Option Told) (job : Job) (step left more : ℕ) (ending : Ending) → IsTold shop job step ending → ending ≢ Exit 0 → left ≡ suc more → LeadsToFate shop job step left → TellsFate shop job (Stopped step ending)
stops shop job step left more ending answers bad one leads = λ told tells.
    let here : fate_from (told.ending job) step (suc more) ≡ Stopped step ending = ap (λ (e : Ending). by_ending step e (fate_from (told.ending job) (step + 1) more)) (sym (answers told tells)) ∙ stop_at step ending (fate_from (told.ending job) (step + 1) more) bad in
    sym here ∙ ap (fate_from (told.ending job) step) (sym one) ∙ leads told tells

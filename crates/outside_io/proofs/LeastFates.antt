-- The fold over the steps of a job finds the first that does not end in `Exit 0`.
use Rattle.std.proofs.Common.{◌≡◌, ◌⊎◌, inl, inr, ◌<◌, ◌≤◌, ◌+◌, ℕ, zero, suc, refl, sym, ◌∙◌, ap, subst, length, Bool, true, false, if◌then◌else◌, ◌==◌, arith}
use Rattle.std.specs.Prelude.{◌≢◌}
use Rattle.std.proofs.lemmas.Bool.{eqb-true, cases_order}
use Rattle.std.proofs.Math.Nat.{eq-or-lt_of_le}
use Rattle.outside_io.specs.Shops.{Told, by_ending, fate_from, fate_of}
use Rattle.outside_io.specs.Fates.{AllEndWell, FatesAreLeast, IsFirstStop}
use Rattle.outside_io.specs.declared.workshop.Job.{Job}
use Rattle.outside_io.specs.declared.workshop.Ending.{Ending}
use Rattle.outside_io.specs.declared.workshop.Ending.TheVariants.{Exit, Killed, NotStarted, NotPrepared}
use Rattle.outside_io.specs.declared.workshop.Fate.{Fate}
use Rattle.outside_io.specs.declared.workshop.Fate.TheVariants.{Stopped, Built}

-- ---- one step

bad_code : (step code : ℕ) (later : Fate) (b : Bool) → (b ≡ true → ⊥) → (if b then later else Stopped step (Exit code)) ≡ Stopped step (Exit code)
bad_code step code later true bad = absurd (bad refl)
bad_code step code later false bad = refl

-- a step that does not end well stops the job
pub stop_at : (step : ℕ) (ending : Ending) (later : Fate) → ending ≢ Exit 0 → by_ending step ending later ≡ Stopped step ending
stop_at step (Exit code) later bad = bad_code step code later (code == 0) (λ same. bad (ap Exit (eqb-true code 0 same)))
stop_at step Killed later bad = refl
stop_at step NotStarted later bad = refl
stop_at step NotPrepared later bad = refl

-- one that does leaves it to the later ones
pub go_on : (step : ℕ) (ending : Ending) (later : Fate) → ending ≡ Exit 0 → by_ending step ending later ≡ later
go_on step ending later well = subst (λ (e : Ending). by_ending step e later ≡ later) (sym well) refl

-- it ends well, or not
data Split (ending : Ending) : Type 0 where
  well : ending ≡ Exit 0 → Split ending
  bad : ending ≢ Exit 0 → Split ending

split_code : (code : ℕ) (b : Bool) → (code == 0) ≡ b → Split (Exit code)
split_code code true is = well (ap Exit (eqb-true code 0 is))
split_code zero false is = absurd (cc)
split_code (suc code) false is = bad (λ same. cc)

split : (ending : Ending) → Split ending
split (Exit code) = split_code code (code == 0) refl
split Killed = bad (λ same. cc)
split NotStarted = bad (λ same. cc)
split NotPrepared = bad (λ same. cc)

-- ---- the steps from one on

-- the first of so many steps from `from` on that does not end well
record StopsFrom (ending : ℕ → Ending) (from left step : ℕ) (stop : Ending) : Type 0 where
  after : from ≤ step
  within : step < from + left
  ends : ending step ≡ stop
  stops : stop ≢ Exit 0
  first : (earlier : ℕ) → from ≤ earlier → earlier < step → ending earlier ≡ Exit 0

abbrev WellFrom : (ℕ → Ending) → ℕ → ℕ → Type 0
WellFrom ending from left = (step : ℕ) → from ≤ step → step < from + left → ending step ≡ Exit 0

-- what the fold gives is so
abbrev Explains : (ℕ → Ending) → ℕ → ℕ → Fate → Type 0
Explains ending from left Built = WellFrom ending from left
Explains ending from left (Stopped step stop) = StopsFrom ending from left step stop

here_or_later_by : (from step : ℕ) → (from ≡ step) ⊎ (from < step) → (P : ℕ → Type 0) → P from → (from + 1 ≤ step → P step) → P step
here_or_later_by from step (inl same) P here later = subst P same here
here_or_later_by from step (inr less) P here later = later (omega arith)

here_or_later : (from step : ℕ) → from ≤ step → (P : ℕ → Type 0) → P from → (from + 1 ≤ step → P step) → P step
here_or_later from step after P here later = here_or_later_by from step (eq-or-lt_of_le after) P here later

explained_later : (ending : ℕ → Ending) (from left : ℕ) (fate : Fate) → ending from ≡ Exit 0 → Explains ending (from + 1) left fate → Explains ending from (suc left) fate
explained_later ending from left Built good later = λ step after within. here_or_later from step after (λ s. ending s ≡ Exit 0) good (λ more. later step more (omega arith))
explained_later ending from left (Stopped step stop) good later = record {
  after = omega (arith, later.after);
  within = omega (arith, later.within);
  ends = later.ends;
  stops = later.stops;
  first = λ earlier after before. here_or_later from earlier after (λ s. ending s ≡ Exit 0) good (λ more. later.first earlier more before);
}

explained_by : (ending : ℕ → Ending) (from left : ℕ) → Split (ending from) → Explains ending (from + 1) left (fate_from ending (from + 1) left) → Explains ending from (suc left) (by_ending from (ending from) (fate_from ending (from + 1) left))
explained_by ending from left (well good) later =
    subst (Explains ending from (suc left)) (sym (go_on from (ending from) (fate_from ending (from + 1) left) good)) (explained_later ending from left (fate_from ending (from + 1) left) good later)
explained_by ending from left (bad not) later =
    let here : StopsFrom ending from (suc left) from (ending from) = record { after = omega arith; within = omega arith; ends = refl; stops = not; first = λ earlier after before. absurd (omega arith) } in
    subst (Explains ending from (suc left)) (sym (stop_at from (ending from) (fate_from ending (from + 1) left) not)) here

explained : (ending : ℕ → Ending) (from left : ℕ) → Explains ending from left (fate_from ending from left)
explained ending from zero = λ step after within. absurd (omega arith)
explained ending from (suc left) = explained_by ending from left (split (ending from)) (explained ending (from + 1) left)

-- ---- a job

abbrev IsExplained : Told → Job → Fate → Type 0
IsExplained told job fate = Explains (told.ending job) 0 (length job.commands + 1) fate

job_explained : (told : Told) (job : Job) → IsExplained told job (fate_of told job)
job_explained told job = explained (told.ending job) 0 (length job.commands + 1)

stop_found : (told : Told) (job : Job) (step : ℕ) (ending : Ending) → fate_of told job ≡ Stopped step ending → IsFirstStop told job step ending
stop_found told job step ending is =
    let found : StopsFrom (told.ending job) 0 (length job.commands + 1) step ending = subst (IsExplained told job) is (job_explained told job) in
    record { within = omega (arith, found.within); ends = found.ends; stops = found.stops; first = λ earlier before. found.first earlier (omega arith) before }

well_found : (told : Told) (job : Job) → fate_of told job ≡ Built → AllEndWell told job
well_found told job is =
    let found : WellFrom (told.ending job) 0 (length job.commands + 1) = subst (IsExplained told job) is (job_explained told job) in
    λ step within. found step (omega arith) (omega arith)

-- two first stops are one
same_stop : (told : Told) (job : Job) (step other : ℕ) (ending last : Ending) → IsFirstStop told job step ending → StopsFrom (told.ending job) 0 (length job.commands + 1) other last → (step ≡ other) ⊎ ((step < other) ⊎ (other < step)) → Stopped other last ≡ Stopped step ending
same_stop told job step other ending last stop found (inl same) =
    let ends : last ≡ ending = sym found.ends ∙ ap (told.ending job) (sym same) ∙ stop.ends in
    cc
same_stop told job step other ending last stop found (inr (inl less)) = absurd (stop.stops (sym stop.ends ∙ found.first step (omega arith) less))
same_stop told job step other ending last stop found (inr (inr more)) = absurd (found.stops (sym found.ends ∙ stop.first other more))

only_stop : (told : Told) (job : Job) (step : ℕ) (ending : Ending) → IsFirstStop told job step ending → (fate : Fate) → IsExplained told job fate → fate ≡ Stopped step ending
only_stop told job step ending stop Built found = absurd (stop.stops (sym stop.ends ∙ found step (omega arith) (omega (arith, stop.within))))
only_stop told job step ending stop (Stopped other last) found = same_stop told job step other ending last stop found (cases_order step other)

only_built : (told : Told) (job : Job) → AllEndWell told job → (fate : Fate) → IsExplained told job fate → fate ≡ Built
only_built told job all Built found = refl
only_built told job all (Stopped step ending) found = absurd (found.stops (sym found.ends ∙ all step (omega (arith, found.within))))

pub fates_least : FatesAreLeast
fates_least told job = record {
  stopped = λ step ending. (stop_found told job step ending, λ stop. only_stop told job step ending stop (fate_of told job) (job_explained told job));
  built = (well_found told job, λ all. only_built told job all (fate_of told job) (job_explained told job));
}

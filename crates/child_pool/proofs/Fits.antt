-- How a job leaves the threads that run.
use Rattle.std.proofs.Common.{◌≡◌, ℕ, zero, suc, List, [], ◌∷◌, ◌++◌, refl, sym, ◌∙◌, ap, subst, Some, Option, Ok, Err, Result, IfOk, All, remove, slice_get}
use Rattle.std.proofs.lemmas.List.Elements.{All-take, All-drop, All-append, All-head, All-tail}
use Rattle.std.proofs.lemmas.Option.{slice_get-map}
use Rattle.std.specs.Option.{option_map}
use Rattle.opam_names.specs.declared.fault.OutOfMemory.{OutOfMemory}
use Rattle.outside_io.specs.Shops.{Told}
use Rattle.outside_io.specs.declared.workshop.Job.{Job}
use Rattle.outside_io.specs.declared.workshop.Fate.{Fate}
use Rattle.child_pool.specs.Crews.{TakesAt, TakesOne, TellsFate}
use Rattle.child_pool.specs.Pools.{IsFit, jobs_of}
use Rattle.child_pool.specs.declared.crew.Event.{Event}
use Rattle.child_pool.specs.declared.crew.Event.TheVariants.{End}
use Rattle.child_pool.proofs.Promises.{IsPromised}

jobs_of-remove : {X : Type 0} (number : X → ℕ) (job : X → Job) (xs : List X) (i : ℕ) → jobs_of number job (remove xs i) ≡ remove (jobs_of number job xs) i
jobs_of-remove number job [] zero = refl
jobs_of-remove number job [] (suc i) = refl
jobs_of-remove number job (x ∷ xs) zero = refl
jobs_of-remove number job (x ∷ xs) (suc i) = ap (λ (l : List (ℕ × Job)). (number x, job x) ∷ l) (jobs_of-remove number job xs i)

All-at : {X : Type 0} (P : X → Type 0) (xs : List X) (i : ℕ) (x : X) → All P xs → slice_get xs i ≡ Some x → P x
All-at P [] i x all at = cc
All-at P (y ∷ ys) zero x all at = let same : y ≡ x = cc in subst P same (All-head P y ys all)
All-at P (y ∷ ys) (suc i) x all at = All-at P ys i x (All-tail P y ys all) at

-- what is left still fits
pub taken : {X F : Type 0} (number : X → ℕ) (job : X → Job) (tells : X → Option Told) (pre : F → ℕ → ℕ → Job → Type 0) (post : F → ℕ → ℕ → Job → Result X OutOfMemory → Type 0) (f g : F) (shop now : Option Told) (xs ys : List X) (i : ℕ) → g ≡ f → now ≡ shop → ys ≡ remove xs i → IsFit number job tells shop (pre f) (post f) xs → IsFit number job tells now (pre g) (post g) ys
taken number job tells pre post f g shop now xs ys i begin same less fit =
    let left : All (λ x. tells x ≡ shop) (remove xs i) = All-append (λ x. tells x ≡ shop) _ _ (All-take (λ x. tells x ≡ shop) i xs fit.run) (All-drop (λ x. tells x ≡ shop) (suc i) xs fit.run) in
    subst (λ (h : _). IsFit number job tells now (pre h) (post h) ys) (sym begin)
    (subst (λ (t : Option Told). IsFit number job tells t (pre f) (post f) ys) (sym same)
    (subst (λ (l : List _). IsFit number job tells shop (pre f) (post f) l) (sym less)
    (record { callable = fit.callable; begun = fit.begun; run = left })))

-- the fate of the job that leaves, as its thread has promised it
pub its_fate : {X : Type 0} (job : X → Job) (tells : X → Option Told) (shop : Option Told) (xs : List X) (i : ℕ) (x : X) (result : Result Fate OutOfMemory) (fate : Fate) → All (λ y. tells y ≡ shop) xs → slice_get xs i ≡ Some x → IsPromised (tells x) (job x) result → result ≡ Ok fate → TellsFate shop (job x) fate
its_fate job tells shop xs i x (Ok other) fate run at promised same =
    let e : other ≡ fate = cc in
    subst (λ (f : Fate). TellsFate shop (job x) f) e (subst (λ (t : Option Told). TellsFate t (job x) other) (All-at (λ y. tells y ≡ shop) xs i x run at) promised)
its_fate job tells shop xs i x (Err refused) fate run at promised same = cc

-- the job that leaves, by where it stands
pub takes : {X : Type 0} (number : X → ℕ) (job : X → Job) (shop : Option Told) (xs ys : List X) (events after : List Event) (i : ℕ) (x : X) (result : Result (ℕ × Fate) OutOfMemory) → slice_get xs i ≡ Some x → ys ≡ remove xs i → after ≡ events ++ End (number x) ∷ [] → IfOk result (λ answer. answer.0 ≡ number x) → IfOk result (λ answer. TellsFate shop (job x) answer.1) → TakesOne shop (jobs_of number job xs) (jobs_of number job ys) events after result
takes number job shop xs ys events after i x result at less ended same told =
    (i, record { id = number x; job = job x; ran = slice_get-map (λ y. (number y, job y)) xs i ∙ ap (option_map (λ y. (number y, job y))) at; left = ap (jobs_of number job) less ∙ jobs_of-remove number job xs i; ended = ended; number = same; fate = told })

-- the job that leaves, where the place is the one that was picked
pub takes_picked : (shop : Option Told) (old new : List (ℕ × Job)) (before after : List Event) (place at : ℕ) (job : ℕ × Job) (result : Result (ℕ × Fate) OutOfMemory) → at ≡ place → slice_get old at ≡ Some job → new ≡ remove old at → after ≡ before ++ End job.0 ∷ [] → IfOk result (λ answer. answer.0 ≡ job.0) → IfOk result (λ answer. TellsFate shop job.1 answer.1) → TakesAt place shop old new before after result
takes_picked shop old new before after place at job result same ran left ended number told =
    record { id = job.0; job = job.1; ran = ap (slice_get old) (sym same) ∙ ran; left = left ∙ ap (remove old) same; ended = ended; number = number; fate = told }

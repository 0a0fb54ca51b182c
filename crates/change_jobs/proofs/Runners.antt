-- Which jobs a crew runs, when one comes and when one leaves.
use Rattle.std.proofs.Common.{◌≡◌, ℕ, zero, suc, ◌+◌, ◌<◌, cond, List, [], ◌∷◌, ◌++◌, length, ap, refl, arith, subst, eqb, All, remove, slice_get}
use Rattle.std.specs.declared.option.Option.TheVariants.{Some}
use Rattle.std.proofs.lemmas.List.Sums.{sum_by-append, sum_by-cons}
use Rattle.std.proofs.lemmas.List.Elements.{All-append, All-drop, All-head, All-tail, All-take}
use Rattle.std.proofs.lemmas.Bool.{eq-eqb}
use Rattle.outside_io.specs.declared.workshop.Job.{Job}
use Rattle.child_pool.specs.Crews.{Running}
use Rattle.change_jobs.specs.Abreast.{times_running}

-- 1 where a job has the number
abbrev pub is_it : ℕ → ℕ × Job → ℕ
is_it id one = cond (eqb one.0 id) 1 0

pub times_push : (id : ℕ) (jobs : Running) (one : ℕ × Job) → times_running id (jobs ++ one ∷ []) ≡ times_running id jobs + is_it id one
times_push id jobs one =
    let last = sum_by-cons (is_it id) one [] in
    omega (arith, sum_by-append (is_it id) jobs (one ∷ []), last)

pub times_removed : (id : ℕ) (jobs : Running) (at : ℕ) (one : ℕ × Job) → slice_get jobs at ≡ Some one → times_running id (remove jobs at) + is_it id one ≡ times_running id jobs
times_removed id [] at one is = cc
times_removed id (job ∷ jobs) zero one is =
    let same : job ≡ one = cc in
    omega (arith, sum_by-cons (is_it id) job jobs, ap (is_it id) same)
times_removed id (job ∷ jobs) (suc at) one is =
    let rest = times_removed id jobs at one is in
    omega (arith, rest, sum_by-cons (is_it id) job jobs, sum_by-cons (is_it id) job (remove jobs at))

-- who runs is counted
pub times_some : (jobs : Running) (at : ℕ) (one : ℕ × Job) → slice_get jobs at ≡ Some one → 0 < times_running one.0 jobs
times_some jobs at one is =
    let counted = times_removed one.0 jobs at one is in
    let own : is_it one.0 one ≡ 1 = ap (λ b. cond b 1 0) (eq-eqb one.0 one.0 refl) in
    omega (arith, counted, own)

pub shorter : (jobs : Running) (at : ℕ) (one : ℕ × Job) → slice_get jobs at ≡ Some one → length (remove jobs at) + 1 ≡ length jobs
shorter [] at one is = cc
shorter (job ∷ jobs) zero one is = omega arith
shorter (job ∷ jobs) (suc at) one is = let less = shorter jobs at one is in omega (arith, less)

pub all_removed : {X : Type 0} (P : X → Type 0) (xs : List X) (at : ℕ) → All P xs → All P (remove xs at)
all_removed P xs at all = All-append P _ _ (All-take P at xs all) (All-drop P (suc at) xs all)

pub all_at : {X : Type 0} (P : X → Type 0) (xs : List X) (i : ℕ) (x : X) → All P xs → slice_get xs i ≡ Some x → P x
all_at P [] i x all at = cc
all_at P (y ∷ ys) zero x all at = let same : y ≡ x = cc in subst P same (All-head P y ys all)
all_at P (y ∷ ys) (suc i) x all at = all_at P ys i x (All-tail P y ys all) at

-- One job more of those that are taken in.
use Rattle.std.proofs.Common.{◌≡◌, ℕ, zero, suc, ◌+◌, List, [], ◌∷◌, ◌++◌, length, refl, sym, ◌∙◌, ap, subst, Some, Option, Result, remove, slice_get, arith}
use Rattle.std.proofs.lemmas.List.{append_assoc}
use Rattle.opam_names.specs.declared.fault.OutOfMemory.{OutOfMemory}
use Rattle.outside_io.specs.Shops.{Told}
use Rattle.outside_io.specs.declared.workshop.Fate.{Fate}
use Rattle.child_pool.specs.Crews.{Running, TakesOne}
use Rattle.child_pool.specs.Drains.{Drained, known_fate}
use Rattle.child_pool.specs.declared.crew.Event.{Event}

remove-shorter : {X : Type 0} (xs : List X) (i : ℕ) (x : X) → slice_get xs i ≡ Some x → length (remove xs i) + 1 ≡ length xs
remove-shorter [] i x at = cc
remove-shorter (y ∷ ys) zero x at = omega arith
remove-shorter (y ∷ ys) (suc i) x at = let less = remove-shorter ys i x at in omega (arith, less)

-- there is one fewer that runs
pub one_fewer : (shop : Option Told) (old new : Running) (before after : List Event) (result : Result (ℕ × Fate) OutOfMemory) → TakesOne shop old new before after result → length new + 1 ≡ length old
one_fewer shop old new before after result takes =
    let it = takes.1 in
    ap (λ (l : Running). length l + 1) it.left ∙ remove-shorter old takes.0 (it.id, it.job) it.ran

-- so many are taken in: the list has grown by the fates that are known
abbrev pub TakenIn : Option Told → Running → Running → List Event → List Event → List (ℕ × Fate) → List (ℕ × Fate) → Type 0
TakenIn shop old new before after first now =
    (count : ℕ) × (fates : List (ℕ × Fate)) × (count + length new ≡ length old) × (now ≡ first ++ fates) × Drained count shop old new before after fates

pub one_more : (shop here : Option Told) (old running new : Running) (before events after : List Event) (first then now : List (ℕ × Fate)) (result : Result (ℕ × Fate) OutOfMemory) → here ≡ shop → TakenIn shop old running before events first then → now ≡ then ++ known_fate result → TakesOne here running new events after result → TakenIn shop old new before after first now
one_more shop here old running new before events after first then now result same so_far more takes =
    let fewer = one_fewer here running new events after result takes in
    let told = subst (λ (s : Option Told). TakesOne s running new events after result) same takes in
    let grown : now ≡ first ++ (so_far.1 ++ known_fate result) = more ∙ ap (λ (l : List (ℕ × Fate)). l ++ known_fate result) so_far.3 ∙ append_assoc first so_far.1 (known_fate result) in
    let left : suc so_far.0 + length new ≡ length old = omega (arith, fewer, so_far.2) in
    (suc so_far.0, so_far.1 ++ known_fate result, left, grown, (running, events, so_far.1, result, so_far.4, told, refl))

-- where none runs, all are
pub all_in : (shop : Option Told) (old new : Running) (before after : List Event) (first now : List (ℕ × Fate)) → new ≡ [] → TakenIn shop old new before after first now → (fates : List (ℕ × Fate)) × (now ≡ first ++ fates) × Drained (length old) shop old new before after fates
all_in shop old new before after first now none taken =
    let empty : length new ≡ 0 = ap length none in
    let all : taken.0 ≡ length old = omega (arith, empty, taken.2) in
    (taken.1, taken.3, subst (λ (n : ℕ). Drained n shop old new before after taken.1) all taken.4)

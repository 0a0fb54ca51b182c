-- The first fault of items, each behind the names of the earlier ones.
use Rattle.std.proofs.Common.{◌≡◌, ℕ, ◌+◌, ◌<◌, List, ◌∷◌, length, get_or, drop, sym, ap, ◌∙◌}
use Rattle.std.specs.declared.option.Option.{Option}
use Rattle.std.proofs.lemmas.List.{drop_more}
use Rattle.opam_names.specs.declared.packages.Pkg.{Pkg}
use Rattle.syntax_trees.specs.declared.tree.Node.{Node}
use Rattle.lock_check.specs.declared.lock_fault.LockFault.{LockFault}
use Rattle.lock_check.specs.LockFaults.{first_lock_fault, sooner_lock_fault}
use Rattle.lock_check.specs.LockItems.{faults_behind, faults_of_pkg, item_pkg, names_with}
use Rattle.lock_check.proofs.FirstLockFaults.{first_of_both, sooner_assoc}

abbrev first_behind : List (List ℕ) → List Node → Option LockFault
first_behind names items = first_lock_fault (faults_behind names items)

cons_step : (so_far : Option LockFault) (names : List (List ℕ)) (item : Node) (more : List Node)
    → sooner_lock_fault (sooner_lock_fault so_far (first_lock_fault (faults_of_pkg names item (item_pkg item)))) (first_behind (names_with names (item_pkg item)) more) ≡ sooner_lock_fault so_far (first_behind names (item ∷ more))
cons_step so_far names item more =
    sooner_assoc so_far (first_lock_fault (faults_of_pkg names item (item_pkg item))) (first_behind (names_with names (item_pkg item)) more)
    ∙ ap (sooner_lock_fault so_far) (sym (first_of_both (faults_of_pkg names item (item_pkg item)) (faults_behind (names_with names (item_pkg item)) more)))

pub one_behind : (so_far here told whole : Option LockFault) (names after : List (List ℕ)) (items : List Node) (i : ℕ) (item : Node) (pkg : Option Pkg)
    → i < length items → item ≡ get_or items i item → pkg ≡ item_pkg item → here ≡ first_lock_fault (faults_of_pkg names item pkg) → told ≡ sooner_lock_fault so_far here
    → after ≡ names_with names pkg → sooner_lock_fault so_far (first_behind names (drop i items)) ≡ whole → sooner_lock_fault told (first_behind after (drop (i + 1) items)) ≡ whole
one_behind so_far here told whole names after items i item pkg within is pkg_is here_is told_is after_is so =
    let D = drop (i + 1) items in
    ap (λ t. sooner_lock_fault t (first_behind after D)) told_is
    ∙ ap (λ h. sooner_lock_fault (sooner_lock_fault so_far h) (first_behind after D)) here_is
    ∙ ap (λ a. sooner_lock_fault (sooner_lock_fault so_far (first_lock_fault (faults_of_pkg names item pkg))) (first_behind a D)) after_is
    ∙ ap (λ p. sooner_lock_fault (sooner_lock_fault so_far (first_lock_fault (faults_of_pkg names item p))) (first_behind (names_with names p) D)) pkg_is
    ∙ cons_step so_far names item D
    ∙ ap (λ x. sooner_lock_fault so_far (first_behind names (x ∷ D))) is
    ∙ ap (λ xs. sooner_lock_fault so_far (first_behind names xs)) (sym (drop_more items i item within))
    ∙ so

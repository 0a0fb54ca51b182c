-- The target of `remove`, put together.
use Rattle.std.proofs.Common.{◌≡◌, ℕ, List, filter, map, not, sym, ◌∙◌, ap, subst}
use Rattle.std.specs.Prelude.{bytes_eq}
use Rattle.std.specs.List.{IsDistinct, list_any}
use Rattle.opam_names.specs.ByteOrderLaws.{TextsRise}
use Rattle.opam_names.specs.ByteOrders.{each_once, has_key}
use Rattle.opam_names.specs.declared.packages.Pkg.{Pkg}
use Rattle.opam_package.specs.declared.package.Member.{Member}
use Rattle.lock_check.specs.Removals.{IsLargestMet, not_named}
use Rattle.lock_check.specs.Targets.{has_member, member_name}
use Rattle.lock_check.specs.Violations.{pkgs_of}
use Rattle.lock_check.proofs.Distinct.{differ_chosen}
use Rattle.lock_check.proofs.Ordered.{any_pkg, filter_same}

-- names that stand there once each are the same names
pub not_named_once : TextsRise → (installed : List Member) (names keys : List (List ℕ)) (others : List Member) → keys ≡ each_once names
    → others ≡ not_named installed keys → others ≡ not_named installed names
not_named_once law installed names keys others once is =
    is ∙ ap (not_named installed) once
    ∙ filter_same (λ (m : Member). not (list_any (bytes_eq (member_name m)) (each_once names))) (λ (m : Member). not (list_any (bytes_eq (member_name m)) names)) installed
    (λ m. ap not (law.members names (member_name m)))

pub others_differ : (installed : List Member) (names : List (List ℕ)) (others : List Member) → others ≡ not_named installed names
    → IsDistinct bytes_eq (map member_name installed) → IsDistinct bytes_eq (map member_name others)
others_differ installed names others is differ =
    let P : List Member → Type 0 = λ xs. IsDistinct bytes_eq (map member_name xs) in
    subst P (sym is) (differ_chosen member_name (λ (m : Member). not (list_any (bytes_eq (member_name m)) names)) installed differ)

pub largest_of : (installed : List Member) (names : List (List ℕ)) (others left : List Member) → others ≡ not_named installed names
    → IsLargestMet others left → IsLargestMet (not_named installed names) left
largest_of installed names others left is h = let P : List Member → Type 0 = λ xs. IsLargestMet xs left in subst P is h

pub found_among : (members : List Member) (set : List Pkg) (names : List (List ℕ)) → set ≡ pkgs_of members
    → filter (λ name. list_any (has_key (λ (pkg : Pkg). pkg.name) name) set) names ≡ filter (has_member members) names
found_among members set names of =
    ap (λ s. filter (λ name. list_any (has_key (λ (pkg : Pkg). pkg.name) name) s) names) of
    ∙ filter_same (λ name. list_any (has_key (λ (pkg : Pkg). pkg.name) name) (pkgs_of members)) (has_member members) names (any_pkg members)

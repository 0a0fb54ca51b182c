-- Edges are needs, and a package neither needs nor forbids itself.
use Rattle.std.proofs.Common.{◌≡◌, ℕ, ◌&&◌, ◌||◌, Bool, true, false, not, bytes_eq, List, [], ◌∷◌, IsTrue, ap, refl}
use Rattle.std.proofs.lemmas.Slice.Eq.{bytes_eq-Decides}
use Rattle.opam_names.specs.declared.packages.Pkg.{Pkg}
use Rattle.opam_package.specs.declared.package.Need.{Need}
use Rattle.opam_package.specs.declared.package.Package.{Package}
use Rattle.opam_package.specs.Dependencies.{is_built_with, is_edge, is_need, is_other, is_run_with, meets_one, names_it}
use Rattle.opam_package.specs.PackageLaws.{EdgesAreNeeds}

or_left : (a b c d : Bool) → (a ≡ true → c ≡ true) → (b ≡ true → d ≡ true) → (a || b) ≡ true → (c || d) ≡ true
or_left true b true d one other is = refl
or_left true b false d one other is = absurd (let e : false ≡ true = one refl in cc)
or_left false b true d one other is = refl
or_left false b false d one other is = other is

or_first : (a b : Bool) → a ≡ true → (a || b) ≡ true
or_first true b is = refl
or_first false b is = absurd cc

and_right : (a b c : Bool) → (b ≡ true → c ≡ true) → (a && b) ≡ true → (a && c) ≡ true
and_right true b c on is = on is
and_right false b c on is = is

-- what it runs with it is built with
run_is_built : (needs : List Need) (name : List ℕ) → is_run_with needs name ≡ true → is_built_with needs name ≡ true
run_is_built [] name is = is
run_is_built (need ∷ needs) name is =
    or_left (names_it name need.runtime) (is_run_with needs name) (names_it name need.runtime || names_it name need.building) (is_built_with needs name)
    (or_first (names_it name need.runtime) (names_it name need.building)) (run_is_built needs name) is

edge_is_need : (dependent : Package) (other : Pkg) → IsTrue (is_edge dependent other) → IsTrue (is_need dependent other)
edge_is_need dependent other is =
    let optional = meets_one dependent.depopts other in
    and_right (is_other dependent other) (is_run_with dependent.items other.name || optional) (is_built_with dependent.items other.name || optional)
    (or_left (is_run_with dependent.items other.name) optional (is_built_with dependent.items other.name) optional (run_is_built dependent.items other.name) (λ e. e)) is

not_other : (dependent : Package) (other : Pkg) → other.name ≡ dependent.pkg.name → is_other dependent other ≡ false
not_other dependent other same = by (bytes_eq other.name dependent.pkg.name) ((bytes_eq-Decides other.name dependent.pkg.name).1 same)
  where
    by : (t : Bool) → t ≡ true → not t ≡ false
    by true is = refl
    by false is = absurd cc

pub edges_are_needs : EdgesAreNeeds
edges_are_needs = record {
  needed = edge_is_need;
  alone = λ dependent other same. ap (λ t. t && (is_built_with dependent.items other.name || meets_one dependent.depopts other)) (not_other dependent other same);
  allowed = λ dependent other same. ap (λ t. t && meets_one dependent.conflicts other) (not_other dependent other same);
}

-- What a binary search by name finds in a set that rises.
use Rattle.std.proofs.Common.{◌≡◌, ℕ, ◌<◌, ◌≤◌, List, length, map, get_or, true, false, refl, sym, subst, ◌∙◌, ◌⊎◌, inl, inr, arith}
use Rattle.std.specs.List.{list_any}
use Rattle.std.specs.List.Sorted.{IsNonDecreasingBy, IsPartitionPoint}
use Rattle.std.specs.Cmp.Lexicographic.{slice_cmp}
use Rattle.std.specs.Ordering.{is_eq, nat_cmp, ordering_index}
use Rattle.std.specs.declared.cmp.Ordering.{Ordering}
use Rattle.std.specs.declared.cmp.Ordering.TheVariants.{Less, Equal, Greater}
use Rattle.std.proofs.Math.ListN.{get_or-map}
use Rattle.std.proofs.lemmas.Bool.{cases_order}
use Rattle.std.proofs.lemmas.Cmp.{nat_list_cmp_total}
use Rattle.std.proofs.lemmas.List.{get_or_default, length-map}
use Rattle.std.proofs.lemmas.List.Folds.{list_any_at, list_any_none}
use Rattle.std.proofs.lemmas.Map.Keys.{Less-from_sorted}
use Rattle.std.proofs.lemmas.Map.Lookups.{exact_bytes}
use Rattle.std.proofs.lemmas.Map.Text.{is_eq-slice_cmp}
use Rattle.opam_names.specs.declared.packages.Pkg.{Pkg}
use Rattle.opam_filter.specs.Reductions.{is_met}
use Rattle.opam_filter.specs.Sets.{Rises, is_met_by}
use Rattle.opam_filter.specs.declared.formula.Test.{Test}

-- how a package stands to a name
abbrev by_name : List ℕ → Pkg → Ordering
by_name name pkg = slice_cmp nat_cmp pkg.name name

-- one that stands apart is not met
stands_apart : (name : List ℕ) (test : Test) (pkg : Pkg) → is_eq (by_name name pkg) ≡ false → is_met_by name test pkg ≡ false
stands_apart name test pkg differs = rw (← is_eq-slice_cmp pkg.name name, differs) refl

-- one that stands equal is met where its version is
same : (name : List ℕ) (test : Test) (pkg : Pkg) → by_name name pkg ≡ Equal → is_met_by name test pkg ≡ is_met test pkg.version
same name test pkg equal = rw (← is_eq-slice_cmp pkg.name name, equal) refl

-- the names of packages at two places
rising : (set : List Pkg) (i j : ℕ) (d : Pkg) → Rises set → i < j → j < length set → by_name (get_or set j d).name (get_or set i d) ≡ Less
rising set i j d rises before within =
    rw (← get_or-map (λ (pkg : Pkg). pkg.name) set i d, ← get_or-map (λ (pkg : Pkg). pkg.name) set j d)
    (Less-from_sorted (slice_cmp nat_cmp) (map (λ pkg. pkg.name) set) i j d.name rises before (omega (arith, length-map set (λ (pkg : Pkg). pkg.name))))

-- an order that is the least one wherever another is not the greatest
least : (a b : Ordering) → (b ≡ Less → a ≡ Less) → (b ≡ Equal → a ≡ Less) → ordering_index a ≤ ordering_index b
least Less b less equal = omega arith
least Equal Less less equal = absurd (let e = less refl in cc)
least Equal Equal less equal = omega arith
least Equal Greater less equal = omega arith
least Greater Less less equal = absurd (let e = less refl in cc)
least Greater Equal less equal = absurd (let e = equal refl in cc)
least Greater Greater less equal = omega arith

-- where a comes before b, a stands to each name no higher than b
steps : (a b name : List ℕ) → slice_cmp nat_cmp a b ≡ Less → ordering_index (slice_cmp nat_cmp a name) ≤ ordering_index (slice_cmp nat_cmp b name)
steps a b name less = least _ _
    (λ e. nat_list_cmp_total.trans a b name less e)
    (λ e. subst (λ z. slice_cmp nat_cmp a z ≡ Less) (exact_bytes _ _ e) less)

-- so the comparisons with a name rise, as a binary search asks
comparisons_rise : (set : List Pkg) (name : List ℕ) → Rises set → IsNonDecreasingBy (λ pkg. ordering_index (by_name name pkg)) set
comparisons_rise set name rises i j d below within = elim (cases_order i j) [
  | inl e ↦ rw e (omega arith)
  | inr (inl before) ↦ steps (get_or set i d).name (get_or set j d).name name (rising set i j d rises before within)
  | inr (inr after) ↦ absurd (omega arith)
]

-- at no other place than that of the name stands the same name
differs : (set : List Pkg) (name : List ℕ) (i j : ℕ) (d : Pkg) → Rises set → i < length set → by_name name (get_or set i d) ≡ Equal
    → j < length set → (i < j) ⊎ (j < i) → is_eq (by_name name (get_or set j d)) ≡ false
differs set name i j d rises here equal within (inr before) =
    let e : (get_or set i d).name ≡ name = exact_bytes _ _ equal in
    rw (← e, rising set j i d rises before here) refl
differs set name i j d rises here equal within (inl after) =
    let e : (get_or set i d).name ≡ name = exact_bytes _ _ equal in
    rw (← e, nat_list_cmp_total.antisymm (get_or set j d).name (get_or set i d).name, rising set i j d rises after within) refl

-- the package that is found settles the answer
pub found : (set : List Pkg) (name : List ℕ) (test : Test) (i : ℕ) (d : Pkg) → Rises set → i < length set → by_name name (get_or set i d) ≡ Equal
    → is_met test (get_or set i d).version ≡ list_any (is_met_by name test) set
found set name test i d rises here equal =
    let answer : is_met_by name test (get_or set i d) ≡ is_met test (get_or set i d).version = same name test (get_or set i d) equal in
    elim (is_met test (get_or set i d).version) as (λ b. is_met test (get_or set i d).version ≡ b → b ≡ list_any (is_met_by name test) set) [
      | true ↦ λ e. sym (list_any_at (is_met_by name test) set i d here (answer ∙ e))
      | false ↦ λ e. sym (list_any_none (is_met_by name test) set (λ j f within.
          rw (get_or_default set j f d within) (elim (cases_order i j) [
            | inl at ↦ rw (← at, answer, e) refl
            | inr apart ↦ stands_apart name test (get_or set j d) (differs set name i j d rises here equal within apart)
          ])))
    ] refl

-- where none is found, none is met
pub missed : (set : List Pkg) (name : List ℕ) (test : Test) (i : ℕ) → Rises set
    → (IsNonDecreasingBy (λ pkg. ordering_index (by_name name pkg)) set → IsPartitionPoint (λ pkg. by_name name pkg ≡ Less) (λ pkg. by_name name pkg ≡ Greater) set i)
    → false ≡ list_any (is_met_by name test) set
missed set name test i rises parted =
    let point = parted (comparisons_rise set name rises) in
    sym (list_any_none (is_met_by name test) set (λ j d within. elim (cases_order j i) [
      | inl e ↦ stands_apart name test (get_or set j d) (rw (point.1 j d (omega arith) within) refl)
      | inr (inl before) ↦ stands_apart name test (get_or set j d) (rw (point.0 j d (omega arith) before) refl)
      | inr (inr after) ↦ stands_apart name test (get_or set j d) (rw (point.1 j d (omega arith) within) refl)
    ]))

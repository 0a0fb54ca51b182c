-- What holds of a set holds of a larger one.
use Rattle.std.proofs.Common.{◌≡◌, ℕ, List, [], ◌∷◌, map, Bool, true, false, refl, sym, ap, subst, ◌||◌, ◌&&◌, ◌∙◌}
use Rattle.std.specs.Prelude.{IsTrue, Contains, bytes_eq}
use Rattle.std.specs.List.{list_all, list_any}
use Rattle.std.proofs.lemmas.List.Folds.{Any-from_list_any, list_any_at}
use Rattle.opam_names.specs.declared.packages.Pkg.{Pkg}
use Rattle.opam_filter.specs.Laws.{HoldingIsMonotone, has_name, is_constrained, is_versioned, layer_constrained, layer_versioned}
use Rattle.opam_filter.specs.Reductions.{at_version, is_met, layer_truth, test_truth}
use Rattle.opam_filter.specs.Sets.{holds, is_met_by}
use Rattle.opam_filter.specs.Truths.{all_of, any_of, is_yes}
use Rattle.opam_filter.specs.declared.formula.Reduced.{Reduced, roll-Reduced}
use Rattle.opam_filter.specs.declared.formula.Reduced.TheOpen.{Reduced-F}
use Rattle.opam_filter.specs.declared.formula.Reduced.TheFolds.{fold-roll-Reduced, ind-Reduced, map-Reduced}
use Rattle.opam_filter.specs.declared.formula.Test.{Test, roll-Test}
use Rattle.opam_filter.specs.declared.formula.Test.TheOpen.{Test-F}
use Rattle.opam_filter.specs.declared.formula.Test.TheFolds.{fold-roll-Test, ind-Test, map-Test}
use Rattle.opam_filter.specs.declared.truth.Truth.{Truth}
use Rattle.opam_filter.proofs.DroppedLaws.{first_of_two, second_of_two}
use Rattle.opam_filter.proofs.ReducedLaws.{holds_at}

-- of two that do not hold, neither
first_of_none : (a b : Bool) → (a || b) ≡ false → a ≡ false
first_of_none true b is = is
first_of_none false b is = refl

second_of_none : (a b : Bool) → (a || b) ≡ false → b ≡ false
second_of_none true b is = absurd (cc)
second_of_none false b is = is

-- of two, one that holds
one_of_two : (a b c d : Bool) → (IsTrue a → IsTrue c) → (IsTrue b → IsTrue d) → IsTrue (a || b) → IsTrue (c || d)
one_of_two true b c d first second is = rw (first refl) refl
one_of_two false b true d first second is = refl
one_of_two false b false d first second is = second is

-- without a constraint each version meets the same tests
abbrev IsSame : Test → Type 0
IsSame test = is_constrained test ≡ false → (version other : List ℕ) → test_truth (at_version version) test ≡ test_truth (at_version other) test

-- the definitions, one layer at a time
truth_at : (version : List ℕ) (layer : Test-F Test) → test_truth (at_version version) (roll-Test layer) ≡ layer_truth (at_version version) (map-Test Test Truth (test_truth (at_version version)) layer)
truth_at version = fold-roll-Test Truth (layer_truth (at_version version))

constrained_at : (layer : Test-F Test) → is_constrained (roll-Test layer) ≡ layer_constrained (map-Test Test Bool is_constrained layer)
constrained_at = fold-roll-Test Bool layer_constrained

-- tests, each with a proof beside it
abbrev tests : List ((test : Test) × IsSame test) → List Test
tests parts = map (λ e. e.0) parts

each_same : (parts : List ((test : Test) × IsSame test)) → list_any (λ part. part) (map is_constrained (tests parts)) ≡ false → (version other : List ℕ)
    → map (test_truth (at_version version)) (tests parts) ≡ map (test_truth (at_version other)) (tests parts)
each_same [] none version other = refl
each_same (e ∷ parts) none version other =
    let here = e.1 (first_of_none (is_constrained e.0) (list_any (λ part. part) (map is_constrained (tests parts))) none) version other in
    let more = each_same parts (second_of_none (is_constrained e.0) _ none) version other in
    cc

same_layer : (layer : Test-F ((test : Test) × IsSame test)) → IsSame (roll-Test (map-Test ((test : Test) × IsSame test) Test (λ e. e.0) layer))
same_layer (Test-F.Known truth) none version other = rw (truth_at version (Test-F.Known truth), truth_at other (Test-F.Known truth)) refl
same_layer (Test-F.Version op right) none version other = absurd (let is = sym (constrained_at (Test-F.Version op right)) ∙ none in cc)
same_layer (Test-F.And parts) none version other =
    rw (truth_at version (Test-F.And (tests parts)), truth_at other (Test-F.And (tests parts)))
    (ap all_of (each_same parts (sym (constrained_at (Test-F.And (tests parts))) ∙ none) version other))
same_layer (Test-F.Or parts) none version other =
    rw (truth_at version (Test-F.Or (tests parts)), truth_at other (Test-F.Or (tests parts)))
    (ap any_of (each_same parts (sym (constrained_at (Test-F.Or (tests parts))) ∙ none) version other))

all_same : (test : Test) → IsSame test
all_same = ind-Test IsSame (λ x y is. subst (λ layer. IsSame (roll-Test layer)) is (same_layer y))

-- what one package passes, a list with that package has
any_within : (p : Pkg → Bool) (set more : List Pkg) → ((pkg : Pkg) → Contains set pkg → Contains more pkg) → IsTrue (list_any p set) → IsTrue (list_any p more)
any_within p set more within any =
    let passed = Any-from_list_any p set any in
    let there = within passed.1 (passed.0, passed.2, passed.3) in
    list_any_at p more there.0 passed.1 there.1 (ap p there.2 ∙ passed.4)

-- where no version is asked for and a package is met, its name is there and each version is met
met_by_name : (name : List ℕ) (test : Test) → is_constrained test ≡ false → (set : List Pkg) → IsTrue (list_any (is_met_by name test) set)
    → IsTrue (has_name set name) × ((version : List ℕ) → IsTrue (is_met test version))
met_by_name name test none set any =
    let passed = Any-from_list_any (is_met_by name test) set any in
    let pkg = passed.1 in
    let named : Pkg → Bool = λ pkg. bytes_eq pkg.name name in
    let here = first_of_two (bytes_eq pkg.name name) (is_met test pkg.version) passed.4 in
    let met = second_of_two (bytes_eq pkg.name name) (is_met test pkg.version) passed.4 in
    (list_any_at named set passed.0 pkg passed.2 (ap named passed.3 ∙ here), λ version. ap is_yes (all_same test none version pkg.version) ∙ met)

-- where each version is met, any package of that name is
has_met : (name : List ℕ) (test : Test) → ((version : List ℕ) → IsTrue (is_met test version)) → (set : List Pkg) → IsTrue (has_name set name) → IsTrue (list_any (is_met_by name test) set)
has_met name test met [] is = is
has_met name test met (pkg ∷ set) is =
    elim (bytes_eq pkg.name name) as (λ b. IsTrue (b || has_name set name) → IsTrue ((b && is_met test pkg.version) || list_any (is_met_by name test) set)) [
      | true ↦ λ here. rw (met pkg.version) refl
      | false ↦ λ there. has_met name test met set there
    ] is

versioned_at : (layer : Reduced-F Reduced) → is_versioned (roll-Reduced layer) ≡ layer_versioned (map-Reduced Reduced Bool is_versioned layer)
versioned_at = fold-roll-Reduced Bool layer_versioned

module _ (set more : List Pkg) where
  -- what holds of the one holds of the other
  abbrev Grows : Reduced → Type 0
  Grows part = IsTrue (holds part set) → IsTrue (holds part more)

  -- what is left, each with a proof beside it
  abbrev bare : List ((part : Reduced) × Grows part) → List Reduced
  bare parts = map (λ e. e.0) parts

  all_grow : (parts : List ((part : Reduced) × Grows part)) → IsTrue (list_all (λ part. part) (map (λ part. holds part set) (bare parts)))
      → IsTrue (list_all (λ part. part) (map (λ part. holds part more) (bare parts)))
  all_grow [] all = refl
  all_grow (e ∷ parts) all =
      let rest = list_all (λ part. part) (map (λ part. holds part set) (bare parts)) in
      let here = e.1 (first_of_two (holds e.0 set) rest all) in
      rw here (all_grow parts (second_of_two (holds e.0 set) rest all))

  any_grow : (parts : List ((part : Reduced) × Grows part)) → IsTrue (list_any (λ part. part) (map (λ part. holds part set) (bare parts)))
      → IsTrue (list_any (λ part. part) (map (λ part. holds part more) (bare parts)))
  any_grow [] any = any
  any_grow (e ∷ parts) any =
      let rest = list_any (λ part. part) (map (λ part. holds part set) (bare parts)) in
      let new = list_any (λ part. part) (map (λ part. holds part more) (bare parts)) in
      one_of_two (holds e.0 set) rest (holds e.0 more) new e.1 (any_grow parts) any

  and_grows : (parts : List ((part : Reduced) × Grows part)) → Grows (roll-Reduced (Reduced-F.And (bare parts)))
  and_grows parts held = holds_at more (Reduced-F.And (bare parts)) ∙ all_grow parts (sym (holds_at set (Reduced-F.And (bare parts))) ∙ held)

  or_grows : (parts : List ((part : Reduced) × Grows part)) → Grows (roll-Reduced (Reduced-F.Or (bare parts)))
  or_grows parts held = holds_at more (Reduced-F.Or (bare parts)) ∙ any_grow parts (sym (holds_at set (Reduced-F.Or (bare parts))) ∙ held)

  atom_grows : (name : List ℕ) (test : Test) → (IsTrue (list_any (is_met_by name test) set) → IsTrue (list_any (is_met_by name test) more)) → Grows (roll-Reduced (Reduced-F.Atom name test))
  atom_grows name test met held = holds_at more (Reduced-F.Atom name test) ∙ met (sym (holds_at set (Reduced-F.Atom name test)) ∙ held)

  -- a set with more packages
  module _ (within : (pkg : Pkg) → Contains set pkg → Contains more pkg) where
    grows_layer : (layer : Reduced-F ((part : Reduced) × Grows part)) → Grows (roll-Reduced (map-Reduced ((part : Reduced) × Grows part) Reduced (λ e. e.0) layer))
    grows_layer Reduced-F.Dropped held = holds_at more Reduced-F.Dropped
    grows_layer (Reduced-F.And parts) held = and_grows parts held
    grows_layer (Reduced-F.Or parts) held = or_grows parts held
    grows_layer (Reduced-F.Atom name test) held = atom_grows name test (any_within (is_met_by name test) set more within) held

    grows : (part : Reduced) → Grows part
    grows = ind-Reduced Grows (λ x y is. subst (λ layer. Grows (roll-Reduced layer)) is (grows_layer y))

  -- a set with more names
  module _ (within : (name : List ℕ) → IsTrue (has_name set name) → IsTrue (has_name more name)) where
    abbrev GrowsPlain : Reduced → Type 0
    GrowsPlain part = is_versioned part ≡ false → Grows part

    abbrev plain : List ((part : Reduced) × GrowsPlain part) → List Reduced
    plain parts = map (λ e. e.0) parts

    -- where no part asks for a version
    granted : (parts : List ((part : Reduced) × GrowsPlain part)) → list_any (λ part. part) (map is_versioned (plain parts)) ≡ false
        → (granted : List ((part : Reduced) × Grows part)) × (bare granted ≡ plain parts)
    granted [] none = ([], refl)
    granted (e ∷ parts) none =
        let rest = list_any (λ part. part) (map is_versioned (plain parts)) in
        let others = granted parts (second_of_none (is_versioned e.0) rest none) in
        ((e.0, e.1 (first_of_none (is_versioned e.0) rest none)) ∷ others.0, ap (λ parts. e.0 ∷ parts) others.1)

    plain_layer : (layer : Reduced-F ((part : Reduced) × GrowsPlain part)) → GrowsPlain (roll-Reduced (map-Reduced ((part : Reduced) × GrowsPlain part) Reduced (λ e. e.0) layer))
    plain_layer Reduced-F.Dropped none held = holds_at more Reduced-F.Dropped
    plain_layer (Reduced-F.And parts) none held =
        let all = granted parts (sym (versioned_at (Reduced-F.And (plain parts))) ∙ none) in
        subst (λ parts. Grows (roll-Reduced (Reduced-F.And parts))) all.1 (and_grows all.0) held
    plain_layer (Reduced-F.Or parts) none held =
        let all = granted parts (sym (versioned_at (Reduced-F.Or (plain parts))) ∙ none) in
        subst (λ parts. Grows (roll-Reduced (Reduced-F.Or parts))) all.1 (or_grows all.0) held
    plain_layer (Reduced-F.Atom name test) none held =
        let unconstrained = sym (versioned_at (Reduced-F.Atom name test)) ∙ none in
        atom_grows name test (λ any. let met = met_by_name name test unconstrained set any in has_met name test met.1 more (within name met.0)) held

    grows_plain : (part : Reduced) → GrowsPlain part
    grows_plain = ind-Reduced GrowsPlain (λ x y is. subst (λ layer. GrowsPlain (roll-Reduced layer)) is (plain_layer y))

pub holding_is_monotone : HoldingIsMonotone
holding_is_monotone = record {
  packages = λ part set more within. grows set more within part;
  names = λ part set more none within. grows_plain set more within part none;
}

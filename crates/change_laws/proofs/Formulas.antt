-- What holds of a set holds of each other one that has the packages which are named.
use Rattle.std.proofs.Common.{◌≡◌, ◌∙◌, ℕ, List, [], ◌∷◌, map, Bool, true, false, refl, sym, ap, subst}
use Rattle.std.specs.Prelude.{◌||◌, bytes_eq}
use Rattle.std.specs.List.{flat_map, list_all, list_any}
use Rattle.std.proofs.lemmas.List.Folds.{list_any-append}
use Rattle.std.proofs.lemmas.Slice.Eq.{bytes_eq-Decides}
use Rattle.opam_names.specs.declared.packages.Pkg.{Pkg}
use Rattle.opam_filter.specs.Sets.{holds, is_met_by, kept_names, layer_kept}
use Rattle.opam_filter.specs.declared.formula.Reduced.{Reduced, roll-Reduced}
use Rattle.opam_filter.specs.declared.formula.Reduced.TheOpen.{Reduced-F}
use Rattle.opam_filter.specs.declared.formula.Reduced.TheFolds.{fold-roll-Reduced, ind-Reduced, map-Reduced}
use Rattle.opam_filter.specs.declared.formula.Test.{Test}
use Rattle.opam_filter.proofs.ReducedLaws.{holds_at}
use Rattle.opam_package.specs.Dependencies.{is_run_with, names_it}
use Rattle.opam_package.specs.declared.package.Need.{Need}
use Rattle.change_outcome.proofs.Lists.{and_left, and_right, both}
use Rattle.change_outcome.proofs.Returning.{or_second}

or_first : (a b : Bool) → a ≡ true → (a || b) ≡ true
or_first a b is = rw is refl

-- of two of which one holds, the other two do so
one_of : (a b c d : Bool) → (a ≡ true → c ≡ true) → (b ≡ true → d ≡ true) → (a || b) ≡ true → (c || d) ≡ true
one_of true b c d first second is = or_first c d (first refl)
one_of false b c d first second is = or_second c d (second is)

kept_at : (layer : Reduced-F Reduced) → kept_names (roll-Reduced layer) ≡ layer_kept (map-Reduced Reduced (List (List ℕ)) kept_names layer)
kept_at = fold-roll-Reduced (List (List ℕ)) layer_kept

module _ (set more : List Pkg) (Named : List ℕ → Type 0) (met : (name : List ℕ) (test : Test) → Named name → list_any (is_met_by name test) set ≡ true → list_any (is_met_by name test) more ≡ true) where
  -- where all names that it keeps are such
  abbrev Grows : Reduced → Type 0
  Grows part = ((name : List ℕ) → list_any (bytes_eq name) (kept_names part) ≡ true → Named name) → holds part set ≡ true → holds part more ≡ true

  abbrev bare : List ((part : Reduced) × Grows part) → List Reduced
  bare parts = map (λ e. e.0) parts

  abbrev all_names : List ((part : Reduced) × Grows part) → List (List ℕ)
  all_names parts = flat_map (λ names. names) (map kept_names (bare parts))

  first_named : (e : (part : Reduced) × Grows part) (parts : List ((part : Reduced) × Grows part)) (name : List ℕ) → list_any (bytes_eq name) (kept_names e.0) ≡ true → list_any (bytes_eq name) (all_names (e ∷ parts)) ≡ true
  first_named e parts name is = list_any-append (bytes_eq name) (kept_names e.0) (all_names parts) ∙ or_first (list_any (bytes_eq name) (kept_names e.0)) (list_any (bytes_eq name) (all_names parts)) is

  later_named : (e : (part : Reduced) × Grows part) (parts : List ((part : Reduced) × Grows part)) (name : List ℕ) → list_any (bytes_eq name) (all_names parts) ≡ true → list_any (bytes_eq name) (all_names (e ∷ parts)) ≡ true
  later_named e parts name is = list_any-append (bytes_eq name) (kept_names e.0) (all_names parts) ∙ or_second (list_any (bytes_eq name) (kept_names e.0)) (list_any (bytes_eq name) (all_names parts)) is

  all_grow : (parts : List ((part : Reduced) × Grows part)) → ((name : List ℕ) → list_any (bytes_eq name) (all_names parts) ≡ true → Named name)
      → list_all (λ part. part) (map (λ part. holds part set) (bare parts)) ≡ true → list_all (λ part. part) (map (λ part. holds part more) (bare parts)) ≡ true
  all_grow [] named all = refl
  all_grow (e ∷ parts) named all =
      let rest = list_all (λ part. part) (map (λ part. holds part set) (bare parts)) in
      both (holds e.0 more) (list_all (λ part. part) (map (λ part. holds part more) (bare parts)))
      (e.1 (λ name is. named name (first_named e parts name is)) (and_left (holds e.0 set) rest all))
      (all_grow parts (λ name is. named name (later_named e parts name is)) (and_right (holds e.0 set) rest all))

  any_grow : (parts : List ((part : Reduced) × Grows part)) → ((name : List ℕ) → list_any (bytes_eq name) (all_names parts) ≡ true → Named name)
      → list_any (λ part. part) (map (λ part. holds part set) (bare parts)) ≡ true → list_any (λ part. part) (map (λ part. holds part more) (bare parts)) ≡ true
  any_grow [] named any = any
  any_grow (e ∷ parts) named any =
      one_of (holds e.0 set) (list_any (λ part. part) (map (λ part. holds part set) (bare parts))) (holds e.0 more) (list_any (λ part. part) (map (λ part. holds part more) (bare parts)))
      (e.1 (λ name is. named name (first_named e parts name is))) (any_grow parts (λ name is. named name (later_named e parts name is))) any

  named_in : (layer : Reduced-F Reduced) → ((name : List ℕ) → list_any (bytes_eq name) (kept_names (roll-Reduced layer)) ≡ true → Named name)
      → (name : List ℕ) → list_any (bytes_eq name) (layer_kept (map-Reduced Reduced (List (List ℕ)) kept_names layer)) ≡ true → Named name
  named_in layer named name is = named name (ap (list_any (bytes_eq name)) (kept_at layer) ∙ is)

  grows_layer : (layer : Reduced-F ((part : Reduced) × Grows part)) → Grows (roll-Reduced (map-Reduced ((part : Reduced) × Grows part) Reduced (λ e. e.0) layer))
  grows_layer Reduced-F.Dropped named held = holds_at more Reduced-F.Dropped
  grows_layer (Reduced-F.And parts) named held =
      holds_at more (Reduced-F.And (bare parts)) ∙ all_grow parts (named_in (Reduced-F.And (bare parts)) named) (sym (holds_at set (Reduced-F.And (bare parts))) ∙ held)
  grows_layer (Reduced-F.Or parts) named held =
      holds_at more (Reduced-F.Or (bare parts)) ∙ any_grow parts (named_in (Reduced-F.Or (bare parts)) named) (sym (holds_at set (Reduced-F.Or (bare parts))) ∙ held)
  grows_layer (Reduced-F.Atom name test) named held =
      holds_at more (Reduced-F.Atom name test)
      ∙ met name test (named_in (Reduced-F.Atom name test) named name (or_first (bytes_eq name name) false (same name))) (sym (holds_at set (Reduced-F.Atom name test)) ∙ held)
    where
      same : (name : List ℕ) → bytes_eq name name ≡ true
      same name = (bytes_eq-Decides name name).1 refl

  grows : (part : Reduced) → Grows part
  grows = ind-Reduced Grows (λ x y is. subst (λ layer. Grows (roll-Reduced layer)) is (grows_layer y))

  -- all that a package needs when it runs
  pub runs_grow : (needs : List Need) → ((name : List ℕ) → is_run_with needs name ≡ true → Named name)
      → list_all (λ (need : Need). holds need.runtime set) needs ≡ true → list_all (λ (need : Need). holds need.runtime more) needs ≡ true
  runs_grow [] named all = refl
  runs_grow (need ∷ needs) named all =
      let rest = list_all (λ (n : Need). holds n.runtime set) needs in
      both (holds need.runtime more) (list_all (λ (n : Need). holds n.runtime more) needs)
      (grows need.runtime (λ name is. named name (or_first (names_it name need.runtime) (is_run_with needs name) is)) (and_left (holds need.runtime set) rest all))
      (runs_grow needs (λ name is. named name (or_second (names_it name need.runtime) (is_run_with needs name) is)) (and_right (holds need.runtime set) rest all))

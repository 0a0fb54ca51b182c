-- A file in which no error is found is sound.
use Rattle.std.proofs.Common.{◌≡◌, ℕ, List, [], ◌∷◌, ◌++◌, Bool, true, false, ◌&&◌, ◌||◌, cond, filter, fold, map, refl, sym, ap, ◌∙◌}
use Rattle.std.specs.Prelude.{codes, drop, if◌then◌else◌, is_none}
use Rattle.std.specs.List.{list_any}
use Rattle.std.specs.declared.option.Option.{Option}
use Rattle.std.specs.declared.option.Option.TheVariants.{None, Some}
use Rattle.std.proofs.lemmas.List.Folds.{list_any-append}
use Rattle.std.proofs.lemmas.List.Sorted.{list_any-IsPermutation}
use Rattle.opam_names.proofs.ByteOrders.{order_permutes}
use Rattle.syntax_trees.specs.Files.{Contents, FieldContents, SectionContents}
use Rattle.syntax_trees.specs.declared.file.Key.{Key}
use Rattle.syntax_trees.specs.declared.tree.Span.{Span}
use Rattle.opam_names.specs.declared.packages.Pkg.{Pkg}
use Rattle.opam_package.specs.FieldFaults.{file_faults, item_faults, section_faults}
use Rattle.opam_package.specs.Fields.{FileItems, field_of, listed}
use Rattle.opam_package.specs.PackageFaults.{first_fault}
use Rattle.opam_package.specs.PackageLaws.{TheFirstIsTold}
use Rattle.opam_package.specs.Packages.{is_refused, with_once}
use Rattle.opam_package.specs.declared.fault.PackageFault.{PackageFault}
use Rattle.opam_lint.specs.declared.finding.Finding.{Finding}
use Rattle.opam_lint.specs.declared.finding.Problem.TheVariants.{NoFormat, NoMaintainer, NoSynopsis, Refused}
use Rattle.opam_lint.specs.Findings.{all_findings, fault_findings, file_findings, finding, finding_key, first_start, is_refused_item, item_findings, items_findings, missing_findings, told_package}
use Rattle.opam_lint.specs.EmptyCommands.{empty_commands}
use Rattle.opam_lint.specs.FindingTexts.{is_error}
use Rattle.opam_lint.specs.LintLaws.{IsSound}
use Rattle.opam_lint.proofs.EmptyQuiet.{Quiet}

neither : (b c : Bool) → (b || c) ≡ false → (b ≡ false) × (c ≡ false)
neither true c e = absurd cc
neither false c e = (refl, e)

both_quiet : (xs ys : List Finding) → Quiet (xs ++ ys) → Quiet xs × Quiet ys
both_quiet xs ys e = neither (list_any is_error xs) (list_any is_error ys) (sym (list_any-append is_error xs ys) ∙ e)

both_empty : {X : Type 0} (xs ys : List X) → xs ++ ys ≡ [] → (xs ≡ []) × (ys ≡ [])
both_empty [] ys e = (refl, e)
both_empty (x ∷ xs) ys e = absurd cc

-- of a fault an error is found
no_fault : (told : Option PackageFault) → Quiet (fault_findings told) → told ≡ None
no_fault None quiet = refl
no_fault (Some fault) quiet = absurd cc

-- and of a format that is missing
not_missing : (missing : Bool) → Quiet (if missing then finding 4 0 NoFormat ∷ [] else []) → missing ≡ false
not_missing true quiet = absurd cc
not_missing false quiet = refl

-- and of an item that is refused
not_refused : (refused : Bool) (at : ℕ) (more : List Finding) → Quiet ((if refused then finding 5 at Refused ∷ [] else []) ++ more) → refused ≡ false
not_refused true at more quiet = absurd cc
not_refused false at more quiet = refl

without : (refused : Bool) (told : Option PackageFault) → told ≡ None → (refused && is_none told) ≡ false → refused ≡ false
without refused None is e = by refused e
  where
    by : (b : Bool) → (b && true) ≡ false → b ≡ false
    by true f = f
    by false f = refl
without refused (Some fault) is e = absurd cc

accepted_item : (pkg : Pkg) (name : List ℕ) (contents : Contents) (at : ℕ) → Quiet (item_findings name contents at) → item_faults pkg name contents ≡ []
    → is_refused name contents ≡ false
accepted_item pkg name (FieldContents value) at quiet sound = not_refused (is_refused name (FieldContents value)) at _ quiet
accepted_item pkg name (SectionContents fields) at quiet sound =
    without (is_refused name (SectionContents fields)) (first_fault (section_faults name fields)) (ap first_fault sound)
    (not_refused (is_refused_item name (SectionContents fields)) at _ quiet)

abbrev pub refused_pair : Key × Contents → Bool
refused_pair item = is_refused item.0.name item.1

accepted_items : (pkg : Pkg) (items : FileItems) (places : List Span) → Quiet (items_findings items places) → file_faults pkg items ≡ []
    → filter refused_pair items ≡ []
accepted_items pkg [] places quiet sound = refl
accepted_items pkg (item ∷ items) places quiet sound =
    let split = both_quiet (item_findings item.0.name item.1 (first_start places)) (items_findings items (drop 1 places)) quiet in
    let parts = both_empty (item_faults pkg item.0.name item.1) (file_faults pkg items) sound in
    ap (λ b. cond b (item ∷ filter refused_pair items) (filter refused_pair items)) (accepted_item pkg item.0.name item.1 (first_start places) split.0 parts.0)
    ∙ accepted_items pkg items (drop 1 places) split.1 parts.1

-- of six lists in a row the first three
first_three : (a b c d e f : List Finding) → Quiet (a ++ b ++ c ++ d ++ e ++ f) → (Quiet a × Quiet b) × Quiet c
first_three a b c d e f quiet =
    let to_e = (both_quiet (a ++ b ++ c ++ d ++ e) f quiet).0 in
    let to_d = (both_quiet (a ++ b ++ c ++ d) e to_e).0 in
    let to_c = both_quiet (a ++ b) c (both_quiet (a ++ b ++ c) d to_d).0 in
    (both_quiet a b to_c.0, to_c.1)

pub sound : TheFirstIsTold → (items : FileItems) (places : List Span) → Quiet (file_findings items places) → IsSound items
sound first items places quiet =
    let all : Quiet (all_findings items places) =
    list_any-IsPermutation is_error (all_findings items places) (file_findings items places) (order_permutes finding_key (all_findings items places)) ∙ quiet in
    let faults = file_faults (told_package items) items in
    let parts = first_three (fault_findings (first_fault faults)) (missing_findings (codes "opam-version") 4 NoFormat items) (items_findings items places)
    (missing_findings (codes "synopsis") 22 NoSynopsis items) (missing_findings (codes "maintainer") 23 NoMaintainer items)
    (listed empty_commands (field_of (codes "build") items)) all in
    let none = (first faults).none (no_fault (first_fault faults) parts.0.0) in
    record {
      faultless = none;
      accepted = ap (λ kept. fold with_once [] (map (λ (item : Key × Contents). item.0.name) kept)) (accepted_items (told_package items) items places parts.1 none);
      format = not_missing (is_none (field_of (codes "opam-version") items)) parts.0.1;
    }

-- Rows set one after another make the map of their table.
use Rattle.std.proofs.Common.{◌≡◌, ℕ, ◌+◌, ◌<◌, length, get_or, Bool, true, false, if◌then◌else◌, List, [], ◌∷◌, ◌++◌, drop, reverse, bytes_eq, codes, refl, sym, ap, ◌∙◌, append_assoc}
use Rattle.std.proofs.lemmas.List.{append-nil, drop_more, reverse-append}
use Rattle.std.specs.FinMap.{empty, from_entries, insert}
use Rattle.std.specs.List.{flat_map}
use Rattle.opam_names.specs.declared.packages.Pkg.{Pkg}
use Rattle.opam_filter.specs.Scopes.{plain}
use Rattle.opam_filter.specs.Variables.{Values, var_cmp}
use Rattle.opam_filter.specs.declared.truth.VarValue.{VarValue}
use Rattle.package_vars.specs.BuildVariables.{VariableRow, asked_rows, build_rows, folder_rows, global_rows, member_rows, own_rows, package_rows, variables_of, view_rows}
use Rattle.package_vars.specs.Steps.{with_rows}
use Rattle.package_vars.specs.declared.facts.Facts.{Facts}
use Rattle.package_vars.specs.declared.facts.View.{View}

-- rows in two parts
in_parts : (values : Values) (rows more : List VariableRow) → with_rows values (rows ++ more) ≡ with_rows (with_rows values rows) more
in_parts values [] more = refl
in_parts values (row ∷ rows) more = in_parts (insert values row.0 row.1) rows more

-- rows over entries that are there
over : (rows there : List VariableRow) → with_rows (from_entries {R = var_cmp} there) rows ≡ from_entries {R = var_cmp} (reverse rows ++ there)
over [] there = refl
over (row ∷ rows) there =
    over rows (row ∷ there)
    ∙ ap (λ es. from_entries {R = var_cmp} es)
    (sym (append_assoc (reverse rows) (row ∷ []) there) ∙ ap (λ es. es ++ there) (sym (reverse-append (row ∷ []) rows)))

-- rows over none
pub from_none : (values : Values) (rows : List VariableRow) → values ≡ with_rows empty rows → values ≡ variables_of rows
from_none values rows is = is ∙ over rows [] ∙ ap (λ es. from_entries {R = var_cmp} es) (append-nil (reverse rows))

-- a table with more rows
pub with_more : (before after : Values) (rows more : List VariableRow) → before ≡ variables_of rows → after ≡ with_rows before more → after ≡ variables_of (rows ++ more)
with_more before after rows more was is =
    is ∙ ap (λ values. with_rows values more) was ∙ over more (reverse rows) ∙ ap (λ es. from_entries {R = var_cmp} es) (sym (reverse-append rows more))

-- one element of a list more
pub one_more : {X : Type 0} (rows : X → List VariableRow) (before after : Values) (xs : List X) (i : ℕ) (x : X)
    → i < length xs → x ≡ get_or xs i x → after ≡ with_rows before (rows x)
    → with_rows after (flat_map rows (drop (i + 1) xs)) ≡ with_rows before (flat_map rows (drop i xs))
one_more rows before after xs i x within is set =
    let later = drop (i + 1) xs in
    ap (λ values. with_rows values (flat_map rows later)) set
    ∙ sym (in_parts before (rows x) (flat_map rows later))
    ∙ ap (λ y. with_rows before (flat_map rows (y ∷ later))) is
    ∙ ap (λ ys. with_rows before (flat_map rows ys)) (sym (drop_more xs i x within))

-- one global more
pub one_global : (before after : Values) (globals : List (List ℕ × VarValue)) (i : ℕ) (global : List ℕ × VarValue)
    → i < length globals → global ≡ get_or globals i global → after ≡ insert before (plain global.0) global.1
    → with_rows after (global_rows (drop (i + 1) globals)) ≡ with_rows before (global_rows (drop i globals))
one_global before after globals i global within is set =
    let later = drop (i + 1) globals in
    ap (λ values. with_rows values (global_rows later)) set
    ∙ ap (λ g. with_rows before (global_rows (g ∷ later))) is
    ∙ ap (λ gs. with_rows before (global_rows gs)) (sym (drop_more globals i global within))

-- a package under its name, and under `_`
pub member_also : (prefix : List ℕ) (built : Pkg) (installed : Bool) (pkg : Pkg) (scope : List ℕ) (before own after : Values)
    → scope ≡ pkg.name → bytes_eq pkg.name built.name ≡ true
    → own ≡ with_rows before (package_rows prefix scope pkg installed)
    → after ≡ with_rows own (package_rows prefix (codes "_") pkg installed)
    → after ≡ with_rows before (member_rows prefix built installed pkg)
member_also prefix built installed pkg scope before own after is same first next =
    let named = package_rows prefix pkg.name pkg installed in
    let other = package_rows prefix (codes "_") pkg installed in
    next
    ∙ ap (λ values. with_rows values other) (first ∙ ap (λ s. with_rows before (package_rows prefix s pkg installed)) is)
    ∙ sym (in_parts before named other)
    ∙ ap (λ b. with_rows before (named ++ (if b then other else []))) (sym same)

-- under its name alone
pub member_alone : (prefix : List ℕ) (built : Pkg) (installed : Bool) (pkg : Pkg) (scope : List ℕ) (before own : Values)
    → scope ≡ pkg.name → bytes_eq pkg.name built.name ≡ false
    → own ≡ with_rows before (package_rows prefix scope pkg installed)
    → own ≡ with_rows before (member_rows prefix built installed pkg)
member_alone prefix built installed pkg scope before own is apart first =
    let named = package_rows prefix pkg.name pkg installed in
    let other = package_rows prefix (codes "_") pkg installed in
    first
    ∙ ap (λ s. with_rows before (package_rows prefix s pkg installed)) is
    ∙ ap (λ rows. with_rows before rows) (sym (append-nil named))
    ∙ ap (λ b. with_rows before (named ++ (if b then other else []))) (sym apart)

-- the rows of a build, part after part
abbrev parts_of : List (List ℕ × VarValue) → Pkg → List (List ℕ) → List ℕ → List Pkg → List VariableRow
parts_of globals pkg asked prefix members =
    global_rows globals ++ own_rows prefix pkg ++ folder_rows prefix ++ asked_rows asked ++ member_rows prefix pkg false pkg ++ view_rows prefix pkg members

pub all_parts : (facts : Facts) (view : View) (pkg : Pkg) (asked : List (List ℕ)) (prefix : List ℕ) (members : List Pkg) (first own folders names itself whole : Values)
    → prefix ≡ facts.prefix → members ≡ view.members
    → first ≡ variables_of (global_rows facts.globals)
    → own ≡ with_rows first (own_rows prefix pkg)
    → folders ≡ with_rows own (folder_rows prefix)
    → names ≡ with_rows folders (asked_rows asked)
    → itself ≡ with_rows names (member_rows prefix pkg false pkg)
    → whole ≡ with_rows itself (view_rows prefix pkg members)
    → whole ≡ variables_of (build_rows facts view pkg asked)
all_parts facts view pkg asked prefix members first own folders names itself whole at seen f o d n i w =
    let globals = global_rows facts.globals in
    let two = globals ++ own_rows prefix pkg in
    let three = two ++ folder_rows prefix in
    let four = three ++ asked_rows asked in
    let five = four ++ member_rows prefix pkg false pkg in
    with_more itself whole five (view_rows prefix pkg members)
    (with_more names itself four (member_rows prefix pkg false pkg)
    (with_more folders names three (asked_rows asked)
    (with_more own folders two (folder_rows prefix)
    (with_more first own globals (own_rows prefix pkg) f o) d) n) i) w
    ∙ ap (λ p. variables_of (parts_of facts.globals pkg asked p members)) at
    ∙ ap (λ ms. variables_of (parts_of facts.globals pkg asked facts.prefix ms)) seen

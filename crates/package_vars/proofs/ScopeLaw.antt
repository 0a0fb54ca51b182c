-- What a variable of a build depends on: the value that a table gives it, part by part.
use Rattle.std.proofs.Common.{◌≡◌, ℕ, Bool, true, false, cond, ◌&&◌, ◌||◌, if◌then◌else◌, List, [], ◌∷◌, ◌++◌, map, reverse, bytes_eq, codes, refl, sym, ap, ◌∙◌}
use Rattle.std.proofs.lemmas.Cmp.{nat_list_cmp_total, on_total, then_total}
use Rattle.std.proofs.lemmas.List.{reverse-append}
use Rattle.std.proofs.lemmas.Map.Text.{is_eq-slice_cmp}
use Rattle.std.specs.Cmp.{IsTotalOrder}
use Rattle.std.specs.Cmp.Lexicographic.{options_total, slice_cmp}
use Rattle.std.specs.FinMap.{find, get, get-from_entries}
use Rattle.std.specs.List.{list_any}
use Rattle.std.specs.Option.{is_some, option_or}
use Rattle.std.specs.Ordering.{eq_by_cmp, is_eq, nat_cmp, ordering_then}
use Rattle.std.specs.declared.cmp.Ordering.{Ordering}
use Rattle.std.specs.declared.cmp.Ordering.TheVariants.{Less, Equal, Greater}
use Rattle.std.specs.declared.option.Option.{Option}
use Rattle.std.specs.declared.option.Option.TheVariants.{None, Some}
use Rattle.opam_names.specs.declared.packages.Pkg.{Pkg}
use Rattle.syntax_trees.specs.declared.tree.Var.{Var}
use Rattle.opam_filter.specs.Scopes.{plain, scoped}
use Rattle.opam_filter.specs.Variables.{var_cmp}
use Rattle.opam_filter.specs.declared.truth.VarValue.{VarValue}
use Rattle.opam_filter.specs.declared.truth.VarValue.TheVariants.{Flag, Text}
use Rattle.package_vars.specs.BuildVariables.{VariableRow, asked_rows, below_prefix, build_rows, folder_rows, global_rows, installed_rows, member_rows, own_rows, package_rows, variables_of, view_rows}
use Rattle.package_vars.specs.VariableLaws.{ScopesAreEnough, has_scope, last_where}
use Rattle.package_vars.specs.declared.facts.Facts.{Facts}
use Rattle.package_vars.specs.declared.facts.View.{View}

variables_total : IsTotalOrder var_cmp
variables_total = then_total (on_total (λ v. v.scope) (options_total nat_list_cmp_total)) (on_total (λ v. v.name) nat_list_cmp_total)

-- what a table has at a variable: the value of the last row
abbrev value : List VariableRow → Var → Option VarValue
value rows q = find var_cmp q (reverse rows)

find_both : (xs ys : List VariableRow) (q : Var) → find var_cmp q (xs ++ ys) ≡ option_or (find var_cmp q xs) (find var_cmp q ys)
find_both [] ys q = refl
find_both (x ∷ xs) ys q = by (eq_by_cmp var_cmp q x.0) (find_both xs ys q)
  where
    by : (t : Bool) → find var_cmp q (xs ++ ys) ≡ option_or (find var_cmp q xs) (find var_cmp q ys)
        → cond t (Some x.1) (find var_cmp q (xs ++ ys)) ≡ option_or (cond t (Some x.1) (find var_cmp q xs)) (find var_cmp q ys)
    by true rest = refl
    by false rest = rest

-- of two tables the later one counts
value_both : (rows more : List VariableRow) (q : Var) → value (rows ++ more) q ≡ option_or (value more q) (value rows q)
value_both rows more q = ap (find var_cmp q) (reverse-append rows more) ∙ find_both (reverse more) (reverse rows) q

-- a table in six parts
abbrev six : (g o f a i v : Option VarValue) → Option VarValue
six g o f a i v = option_or v (option_or i (option_or a (option_or f (option_or o g))))

value_six : (g o f a i v : List VariableRow) (q : Var) → value (g ++ o ++ f ++ a ++ i ++ v) q ≡ six (value g q) (value o q) (value f q) (value a q) (value i q) (value v q)
value_six g o f a i v q =
    value_both (g ++ o ++ f ++ a ++ i) v q
    ∙ ap (option_or (value v q)) (value_both (g ++ o ++ f ++ a) i q
    ∙ ap (option_or (value i q)) (value_both (g ++ o ++ f) a q
    ∙ ap (option_or (value a q)) (value_both (g ++ o) f q
    ∙ ap (option_or (value f q)) (value_both g o q))))

-- ---- rows under a scope

-- a name with its value
abbrev Field : Type 0
Field = List ℕ × VarValue

abbrev under : List ℕ → Field → VariableRow
under scope field = (scoped scope field.0, field.1)

abbrev field_in : List ℕ → List Field → Option VarValue
field_in name fields = find (slice_cmp nat_cmp) name fields

both_eq : (a b : Ordering) → is_eq (ordering_then a b) ≡ (is_eq a && is_eq b)
both_eq Less b = refl
both_eq Equal b = refl
both_eq Greater b = refl

either_way : {A : Type 0} (t : Bool) (x : A) → x ≡ cond t x x
either_way true x = refl
either_way false x = refl

find_under : (scope at name : List ℕ) (fields : List Field)
    → find var_cmp (scoped at name) (map (under scope) fields) ≡ cond (bytes_eq at scope) (field_in name fields) None
find_under scope at name [] = either_way (bytes_eq at scope) None
find_under scope at name (field ∷ fields) =
    ap (λ t. cond t (Some field.1) (find var_cmp (scoped at name) (map (under scope) fields)))
    (both_eq (slice_cmp nat_cmp at scope) (slice_cmp nat_cmp name field.0) ∙ ap (λ t. t && is_eq (slice_cmp nat_cmp name field.0)) (is_eq-slice_cmp at scope))
    ∙ ap (λ x. cond (bytes_eq at scope && is_eq (slice_cmp nat_cmp name field.0)) (Some field.1) x) (find_under scope at name fields)
    ∙ by (bytes_eq at scope) (is_eq (slice_cmp nat_cmp name field.0))
  where
    by : (t u : Bool) → cond (t && u) (Some field.1) (cond t (field_in name fields) None) ≡ cond t (cond u (Some field.1) (field_in name fields)) None
    by true u = refl
    by false u = refl

find_plain : (scope name : List ℕ) (fields : List Field) → find var_cmp (plain name) (map (under scope) fields) ≡ None
find_plain scope name [] = refl
find_plain scope name (field ∷ fields) = find_plain scope name fields

-- whether a package is installed, the last row first
abbrev installed_fields : Bool → List Field
installed_fields installed =
    (codes "enable", Text (if installed then codes "enable" else codes "disable"))
    ∷ (codes "installed", Flag installed)
    ∷ []

abbrev own_folder : List ℕ → List ℕ → List ℕ → Field
own_folder prefix name folder = (folder, below_prefix prefix (folder ++ codes "/" ++ name))

abbrev shared_folder : List ℕ → List ℕ → Field
shared_folder prefix folder = (folder, below_prefix prefix folder)

-- the rows of a package, the last one first
abbrev fields_of : List ℕ → Pkg → Bool → List Field
fields_of prefix pkg installed =
    installed_fields installed
    ++ shared_folder prefix (codes "man") ∷ shared_folder prefix (codes "sbin") ∷ shared_folder prefix (codes "bin")
    ∷ own_folder prefix pkg.name (codes "etc") ∷ own_folder prefix pkg.name (codes "doc") ∷ own_folder prefix pkg.name (codes "share") ∷ own_folder prefix pkg.name (codes "lib")
    ∷ (codes "version", Text pkg.version) ∷ (codes "name", Text pkg.name) ∷ []

-- a package has fields of the same names as any other
is_there : (name : List ℕ) (fields : List Field) → is_some (field_in name fields) ≡ list_any (eq_by_cmp (slice_cmp nat_cmp) name) (map (λ f. f.0) fields)
is_there name [] = refl
is_there name (field ∷ fields) = by (eq_by_cmp (slice_cmp nat_cmp) name field.0) (is_there name fields)
  where
    by : (t : Bool) → is_some (field_in name fields) ≡ list_any (eq_by_cmp (slice_cmp nat_cmp) name) (map (λ f. f.0) fields)
        → is_some (cond t (Some field.1) (field_in name fields)) ≡ (t || list_any (eq_by_cmp (slice_cmp nat_cmp) name) (map (λ f. f.0) fields))
    by true rest = refl
    by false rest = rest

alike : (prefix name : List ℕ) (pkg other : Pkg) → is_some (field_in name (fields_of prefix pkg true)) ≡ is_some (field_in name (fields_of prefix other true))
alike prefix name pkg other = is_there name (fields_of prefix pkg true) ∙ sym (is_there name (fields_of prefix other true))

-- ---- a member

member_value : (prefix : List ℕ) (built pkg : Pkg) (scope name : List ℕ)
    → value (member_rows prefix built true pkg) (scoped scope name) ≡ cond (has_scope built scope pkg) (field_in name (fields_of prefix pkg true)) None
member_value prefix built pkg scope name =
    value_both (package_rows prefix pkg.name pkg true) (if bytes_eq pkg.name built.name then package_rows prefix (codes "_") pkg true else []) (scoped scope name)
    ∙ ap (λ x. option_or x (value (package_rows prefix pkg.name pkg true) (scoped scope name))) (also (bytes_eq pkg.name built.name))
    ∙ ap (λ x. option_or (cond (bytes_eq pkg.name built.name) (cond (bytes_eq scope (codes "_")) (field_in name (fields_of prefix pkg true)) None) None) x) (find_under pkg.name scope name (fields_of prefix pkg true))
    ∙ by (bytes_eq scope pkg.name) (bytes_eq pkg.name built.name) (bytes_eq scope (codes "_")) (field_in name (fields_of prefix pkg true))
  where
    also : (t : Bool) → value (if t then package_rows prefix (codes "_") pkg true else []) (scoped scope name) ≡ cond t (cond (bytes_eq scope (codes "_")) (field_in name (fields_of prefix pkg true)) None) None
    also true = find_under (codes "_") scope name (fields_of prefix pkg true)
    also false = refl

    by : (t u v : Bool) (x : Option VarValue) → option_or (cond u (cond v x None) None) (cond t x None) ≡ cond (t || (u && v)) x None
    by true true true None = refl
    by true true true (Some y) = refl
    by true true false x = refl
    by true false v x = refl
    by false true true None = refl
    by false true true (Some y) = refl
    by false true false x = refl
    by false false v x = refl

member_plain : (prefix : List ℕ) (built pkg : Pkg) (name : List ℕ) → value (member_rows prefix built true pkg) (plain name) ≡ None
member_plain prefix built pkg name =
    value_both (package_rows prefix pkg.name pkg true) (if bytes_eq pkg.name built.name then package_rows prefix (codes "_") pkg true else []) (plain name)
    ∙ ap (λ x. option_or x (value (package_rows prefix pkg.name pkg true) (plain name))) (also (bytes_eq pkg.name built.name))
    ∙ find_plain pkg.name name (fields_of prefix pkg true)
  where
    also : (t : Bool) → value (if t then package_rows prefix (codes "_") pkg true else []) (plain name) ≡ None
    also true = find_plain (codes "_") name (fields_of prefix pkg true)
    also false = refl

-- ---- the view

-- what the last member of a scope says
abbrev told : List ℕ → List ℕ → Option Pkg → Option VarValue
told prefix name None = None
told prefix name (Some pkg) = field_in name (fields_of prefix pkg true)

view_value : (prefix : List ℕ) (built : Pkg) (members : List Pkg) (scope name : List ℕ)
    → value (view_rows prefix built members) (scoped scope name) ≡ told prefix name (last_where (has_scope built scope) members)
view_value prefix built [] scope name = refl
view_value prefix built (pkg ∷ members) scope name =
    value_both (member_rows prefix built true pkg) (view_rows prefix built members) (scoped scope name)
    ∙ ap (λ x. option_or x (value (member_rows prefix built true pkg) (scoped scope name))) (view_value prefix built members scope name)
    ∙ ap (λ x. option_or (told prefix name (last_where (has_scope built scope) members)) x) (member_value prefix built pkg scope name)
    ∙ by (last_where (has_scope built scope) members) (has_scope built scope pkg)
  where
    none : (x y : Option VarValue) → is_some x ≡ is_some y → option_or x y ≡ x
    none (Some a) y e = refl
    none None None e = refl
    none None (Some b) e = absurd (cc)

    or_none : (x : Option VarValue) → option_or x None ≡ x
    or_none None = refl
    or_none (Some y) = refl

    by : (last : Option Pkg) (t : Bool) → option_or (told prefix name last) (cond t (field_in name (fields_of prefix pkg true)) None) ≡ told prefix name (option_or last (cond t (Some pkg) None))
    by None true = refl
    by None false = refl
    by (Some other) true = none (field_in name (fields_of prefix other true)) (field_in name (fields_of prefix pkg true)) (alike prefix name other pkg)
    by (Some other) false = or_none (field_in name (fields_of prefix other true))

view_plain : (prefix : List ℕ) (built : Pkg) (members : List Pkg) (name : List ℕ) → value (view_rows prefix built members) (plain name) ≡ None
view_plain prefix built [] name = refl
view_plain prefix built (pkg ∷ members) name =
    value_both (member_rows prefix built true pkg) (view_rows prefix built members) (plain name)
    ∙ ap (λ x. option_or x (value (member_rows prefix built true pkg) (plain name))) (view_plain prefix built members name)
    ∙ member_plain prefix built pkg name

-- ---- the names that are asked for

asked_value : (asked : List (List ℕ)) (scope name : List ℕ)
    → value (asked_rows asked) (scoped scope name) ≡ cond (list_any (bytes_eq scope) asked) (field_in name (installed_fields false)) None
asked_value [] scope name = refl
asked_value (first ∷ asked) scope name =
    value_both (installed_rows first false) (asked_rows asked) (scoped scope name)
    ∙ ap (λ x. option_or x (value (installed_rows first false) (scoped scope name))) (asked_value asked scope name)
    ∙ ap (λ x. option_or (cond (list_any (bytes_eq scope) asked) (field_in name (installed_fields false)) None) x) (find_under first scope name (installed_fields false))
    ∙ by (bytes_eq scope first) (list_any (bytes_eq scope) asked) (field_in name (installed_fields false))
  where
    by : (t u : Bool) (x : Option VarValue) → option_or (cond u x None) (cond t x None) ≡ cond (t || u) x None
    by true true None = refl
    by true true (Some y) = refl
    by true false x = refl
    by false true None = refl
    by false true (Some y) = refl
    by false false x = refl

asked_plain : (asked : List (List ℕ)) (name : List ℕ) → value (asked_rows asked) (plain name) ≡ None
asked_plain [] name = refl
asked_plain (first ∷ asked) name =
    value_both (installed_rows first false) (asked_rows asked) (plain name)
    ∙ ap (λ x. option_or x (value (installed_rows first false) (plain name))) (asked_plain asked name)
    ∙ find_plain first name (installed_fields false)

-- ---- all of them

-- where views and names have the same value, so has the whole
same : (facts : Facts) (view other : View) (built : Pkg) (asked names : List (List ℕ)) (q : Var)
    → value (view_rows facts.prefix built view.members) q ≡ value (view_rows facts.prefix built other.members) q
    → value (asked_rows asked) q ≡ value (asked_rows names) q
    → get (variables_of (build_rows facts view built asked)) q ≡ get (variables_of (build_rows facts other built names)) q
same facts view other built asked names q members named =
    let g = global_rows facts.globals in
    let o = own_rows facts.prefix built in
    let f = folder_rows facts.prefix in
    let i = member_rows facts.prefix built false built in
    get-from_entries variables_total (reverse (build_rows facts view built asked)) q
    ∙ value_six g o f (asked_rows asked) i (view_rows facts.prefix built view.members) q
    ∙ ap (λ x. six (value g q) (value o q) (value f q) x (value i q) (value (view_rows facts.prefix built view.members) q)) named
    ∙ ap (λ x. six (value g q) (value o q) (value f q) (value (asked_rows names) q) (value i q) x) members
    ∙ sym (value_six g o f (asked_rows names) i (view_rows facts.prefix built other.members) q)
    ∙ sym (get-from_entries variables_total (reverse (build_rows facts other built names)) q)

pub scopes_are_enough : ScopesAreEnough
scopes_are_enough = record {
  plain = λ facts view other built asked names name.
      same facts view other built asked names (plain name)
      (view_plain facts.prefix built view.members name ∙ sym (view_plain facts.prefix built other.members name))
      (asked_plain asked name ∙ sym (asked_plain names name));
  scoped = λ facts view other built asked names scope name members named.
      same facts view other built asked names (scoped scope name)
      (view_value facts.prefix built view.members scope name ∙ ap (told facts.prefix name) members ∙ sym (view_value facts.prefix built other.members scope name))
      (asked_value asked scope name ∙ ap (λ t. cond t (field_in name (installed_fields false)) None) named ∙ sym (asked_value names scope name));
}

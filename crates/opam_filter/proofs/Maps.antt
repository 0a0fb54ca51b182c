-- Maps of variables: what a list of entries has at a variable, and what one more entry changes.
use Rattle.std.proofs.Common.{◌≡◌, ℕ, cond, List, [], ◌∷◌, ◌++◌, refl, sym, ap, ◌∙◌}
use Rattle.std.proofs.lemmas.Cmp.{nat_list_cmp_total, on_total, then_total}
use Rattle.std.proofs.lemmas.Map.Lookups.{CmpEqualImpliesEq, exact_bytes, exact_pairs}
use Rattle.std.specs.BTreeMap.{is_at}
use Rattle.std.specs.Cmp.{IsTotalOrder, eq_by_cmp_equiv}
use Rattle.std.specs.Cmp.Lexicographic.{options_total, slice_cmp}
use Rattle.std.specs.FinMap.{empty, find, from_entries, get, get-from_entries, get-insert, insert, same_map}
use Rattle.std.specs.Map.{lookup}
use Rattle.std.specs.Option.{option_cmp}
use Rattle.std.specs.Ordering.{nat_cmp}
use Rattle.std.specs.declared.option.Option.{Option}
use Rattle.std.specs.declared.option.Option.TheVariants.{None, Some}
use Rattle.syntax_trees.specs.declared.tree.Var.{Var}
use Rattle.opam_filter.specs.Variables.{Values, var_cmp}
use Rattle.opam_filter.specs.declared.truth.VarValue.{VarValue}

-- scopes that compare alike are one
exact_scopes : CmpEqualImpliesEq (option_cmp (slice_cmp nat_cmp))
exact_scopes None None h = refl
exact_scopes None (Some y) h = absurd (cc)
exact_scopes (Some x) None h = absurd (cc)
exact_scopes (Some x) (Some y) h = ap Some (exact_bytes x y h)

-- variables that compare alike are one
pub exact_variables : CmpEqualImpliesEq var_cmp
exact_variables a b h = ap (λ (p : Option (List ℕ) × List ℕ). record { scope = p.0; name = p.1 }) (exact_pairs (option_cmp (slice_cmp nat_cmp)) (slice_cmp nat_cmp) exact_scopes exact_bytes (a.scope, a.name) (b.scope, b.name) h)

-- the order of variables is total
pub variables_total : IsTotalOrder var_cmp
variables_total = then_total (on_total (λ v. v.scope) (options_total nat_list_cmp_total)) (on_total (λ v. v.name) nat_list_cmp_total)

-- what entries have at a variable
abbrev pub value_in : List (Var × VarValue) → Var → Option VarValue
value_in entries variable = lookup (is_at (var_cmp variable)) entries

-- the first entry of a variable, by either word
find_variable : (es : List (Var × VarValue)) (q : Var) → find var_cmp q es ≡ value_in es q
find_variable [] q = refl
find_variable (e ∷ es) q = ap (cond (is_at (var_cmp q) e.0) (Some e.1)) (find_variable es q)

-- what the map that the entries make has at a variable
pub get_variable : (es : List (Var × VarValue)) (q : Var) → get (from_entries {R = var_cmp} es) q ≡ value_in es q
get_variable es q = get-from_entries variables_total es q ∙ find_variable es q

-- entries that differ at one variable make maps that differ there
pub one_set : (es fs : List (Var × VarValue)) (v : Var) (x : VarValue) → ((q : Var) → value_in fs q ≡ cond (is_at (var_cmp v) q) (Some x) (value_in es q)) → from_entries {R = var_cmp} fs ≡ insert (from_entries es) v x
one_set es fs v x h = same_map variables_total exact_variables _ _ (λ q.
    get_variable fs q ∙ h q ∙ ap (λ b. cond b (Some x) (value_in es q)) ((eq_by_cmp_equiv variables_total).symm v q)
    ∙ sym (get-insert variables_total (from_entries es) v x q ∙ ap (cond (is_at (var_cmp q) v) (Some x)) (get_variable es q)))

-- a map with entries put over it, the last one first
abbrev pub put_over : Values → List (Var × VarValue) → Values
put_over values [] = values
put_over values (entry ∷ entries) = insert (put_over values entries) entry.0 entry.1

-- the last one is put in
pub last_put_over : (values : Values) (entries : List (Var × VarValue)) (variable : Var) (value : VarValue)
    → put_over values (entries ++ (variable, value) ∷ []) ≡ put_over (insert values variable value) entries
last_put_over values [] variable value = refl
last_put_over values (entry ∷ entries) variable value = ap (λ m. insert m entry.0 entry.1) (last_put_over values entries variable value)

-- over the empty map they are the map of the list
pub put_over_empty : (entries : List (Var × VarValue)) → put_over empty entries ≡ from_entries entries
put_over_empty [] = refl
put_over_empty (entry ∷ entries) = ap (λ m. insert m entry.0 entry.1) (put_over_empty entries)

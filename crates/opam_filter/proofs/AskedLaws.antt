-- The value of a filter depends on the packages that it asks for alone.
use Rattle.std.proofs.Common.{◌≡◌, ℕ, ◌||◌, Bool, true, false, not, cond, List, [], ◌∷◌, ◌++◌, filter, map, refl, sym, ap, subst, ◌∙◌}
use Rattle.std.proofs.lemmas.List.Folds.{list_any-append}
use Rattle.std.proofs.lemmas.Slice.Eq.{bytes_eq-Decides}
use Rattle.std.specs.FinMap.{get}
use Rattle.std.specs.Bool.{IsTrue}
use Rattle.std.specs.List.{after_first, flat_map, list_any}
use Rattle.std.specs.Option.{is_some}
use Rattle.std.specs.Prelude.{bytes_eq, codes}
use Rattle.std.specs.declared.option.Option.{Option}
use Rattle.std.specs.declared.option.Option.TheVariants.{None, Some}
use Rattle.opam_names.specs.Names.{is_name}
use Rattle.syntax_trees.specs.Words.{scope_parts}
use Rattle.syntax_trees.specs.declared.tree.Var.{Var}
use Rattle.opam_names.specs.ByteOrderLaws.{TextsRise}
use Rattle.opam_filter.specs.Asked.{layer_names, names_in, names_in_text, names_of_scope}
use Rattle.opam_filter.specs.Laws.{AgreeOn, AreEachOnce, AskedIsEnough, NamesRise, is_scope_among}
use Rattle.opam_filter.specs.NameSets.{in_byte_order}
use Rattle.opam_filter.specs.Scopes.{all_in, enable_value, is_joined, joined_value, plain, scoped, scoped_value, value_at}
use Rattle.opam_filter.specs.Sets.{kept_names}
use Rattle.opam_filter.specs.Texts.{Hole, asked_for, chosen, expanded, filled, is_question, parts_of, shown}
use Rattle.opam_filter.specs.Truths.{all_of, any_of, both, is_yes, negated, related, truth_of, value_of}
use Rattle.opam_filter.specs.Values.{filter_value, layer_value}
use Rattle.opam_filter.specs.Variables.{Values}
use Rattle.opam_filter.specs.declared.filter.Filter.{Filter, roll-Filter}
use Rattle.opam_filter.specs.declared.filter.Filter.TheOpen.{Filter-F}
use Rattle.opam_filter.specs.declared.filter.Filter.TheFolds.{fold-roll-Filter, ind-Filter, map-Filter}
use Rattle.opam_filter.specs.declared.truth.VarValue.{VarValue}
use Rattle.opam_filter.specs.declared.truth.VarValue.TheVariants.{Flag, Text}

or_left : (x y : Bool) → x ≡ true → (x || y) ≡ true
or_left true y h = refl
or_left false y h = cc

or_right : (x y : Bool) → y ≡ true → (x || y) ≡ true
or_right true y h = refl
or_right false y h = h

or_either : (x y z : Bool) → (x ≡ true → z ≡ true) → (y ≡ true → z ≡ true) → (x || y) ≡ true → z ≡ true
or_either true y z f g h = f refl
or_either false y z f g h = g h

among : (small big : List (List ℕ)) → ((name : List ℕ) → list_any (bytes_eq name) small ≡ true → list_any (bytes_eq name) big ≡ true)
    → (scope : Option (List ℕ)) → IsTrue (is_scope_among small scope) → IsTrue (is_scope_among big scope)
among small big within None h = refl
among small big within (Some name) h =
    or_either (not (is_name name)) (list_any (bytes_eq name) small) (is_scope_among big (Some name))
    (λ e. or_left (not (is_name name)) (list_any (bytes_eq name) big) e)
    (λ e. or_right (not (is_name name)) (list_any (bytes_eq name) big) (within name e)) h

-- maps that agree on names agree on fewer
fewer : (small big : List (List ℕ)) (values others : Values) → ((name : List ℕ) → list_any (bytes_eq name) small ≡ true → list_any (bytes_eq name) big ≡ true)
    → AgreeOn big values others → AgreeOn small values others
fewer small big values others within agree = λ variable h. agree variable (among small big within variable.scope h)

-- the order does not matter
in_order : TextsRise → (names : List (List ℕ)) (values others : Values) → AgreeOn (in_byte_order names) values others → AgreeOn names values others
in_order rise names values others = fewer names (in_byte_order names) values others (λ name h. rise.members names name ∙ h)

-- of names that are joined, each side
first_of_two : (xs ys : List (List ℕ)) (values others : Values) → AgreeOn (xs ++ ys) values others → AgreeOn xs values others
first_of_two xs ys values others = fewer xs (xs ++ ys) values others (λ name h. list_any-append (bytes_eq name) xs ys ∙ or_left (list_any (bytes_eq name) xs) (list_any (bytes_eq name) ys) h)

second_of_two : (xs ys : List (List ℕ)) (values others : Values) → AgreeOn (xs ++ ys) values others → AgreeOn ys values others
second_of_two xs ys values others = fewer ys (xs ++ ys) values others (λ name h. list_any-append (bytes_eq name) xs ys ∙ or_right (list_any (bytes_eq name) xs) (list_any (bytes_eq name) ys) h)

-- a part of a scope, where what is looked up are the parts that are names
one_part : (values others : Values) (part name : List ℕ) (parts : List (List ℕ)) → AgreeOn (filter is_name (part ∷ parts)) values others → get values (scoped part name) ≡ get others (scoped part name)
one_part values others part name parts agree = agree (scoped part name) (by (is_name part))
  where
    by : (t : Bool) → (not t || list_any (bytes_eq part) (cond t (part ∷ filter is_name parts) (filter is_name parts))) ≡ true
    by true = or_left (bytes_eq part part) (list_any (bytes_eq part) (filter is_name parts)) ((bytes_eq-Decides part part).1 refl)
    by false = refl

-- the parts that follow it
other_parts : (values others : Values) (part : List ℕ) (parts : List (List ℕ)) → AgreeOn (filter is_name (part ∷ parts)) values others → AgreeOn (filter is_name parts) values others
other_parts values others part parts =
    fewer (filter is_name parts) (filter is_name (part ∷ parts)) values others (λ name h. by (is_name part) name h)
  where
    by : (t : Bool) (name : List ℕ) → list_any (bytes_eq name) (filter is_name parts) ≡ true → list_any (bytes_eq name) (cond t (part ∷ filter is_name parts) (filter is_name parts)) ≡ true
    by true name h = or_right (bytes_eq name part) (list_any (bytes_eq name) (filter is_name parts)) h
    by false name h = h

-- all parts of a scope
all_parts : (values others : Values) (name : List ℕ) (parts : List (List ℕ)) → AgreeOn (filter is_name parts) values others → all_in values name parts ≡ all_in others name parts
all_parts values others name [] agree = refl
all_parts values others name (part ∷ parts) agree =
    let here = one_part values others part name parts agree in
    let more = all_parts values others name parts (other_parts values others part parts agree) in
    (λ k. both (truth_of (here k)) (more k))

-- the value of a variable
variable_same : (values others : Values) (variable : Var) → AgreeOn (names_of_scope variable.scope) values others → value_at values variable ≡ value_at others variable
variable_same values others variable = by variable.scope variable.name
  where
    joined : (scope name : List ℕ) (t : Bool) → AgreeOn (filter is_name (cond t (scope_parts scope) (scope ∷ []))) values others
        → cond t (joined_value values (scope_parts scope) name) (get values (scoped scope name)) ≡ cond t (joined_value others (scope_parts scope) name) (get others (scoped scope name))
    joined scope name true agree =
        let installed = all_parts values others (codes "installed") (scope_parts scope) agree in
        let own = all_parts values others name (scope_parts scope) agree in
        (λ k. cond (bytes_eq name (codes "enable")) (enable_value (installed k)) (value_of (own k)))
    joined scope name false agree = one_part values others scope name [] agree

    by : (scope : Option (List ℕ)) (name : List ℕ) → AgreeOn (names_of_scope scope) values others → scoped_value values scope name ≡ scoped_value others scope name
    by None name agree = agree (plain name) refl
    by (Some scope) name agree = joined scope name (is_joined scope) agree

-- what stands for an interpolation
filled_same : (values others : Values) (inside : List ℕ) → AgreeOn (names_of_scope (asked_for inside).scope) values others → filled values inside ≡ filled others inside
filled_same values others inside agree =
    ap (λ value. cond (list_any is_question inside) (chosen (is_yes (truth_of value)) (after_first is_question inside)) (shown value)) (variable_same values others (asked_for inside) agree)

abbrev hole_names : Hole → List (List ℕ)
hole_names hole = names_of_scope (asked_for hole.inside).scope

-- several interpolations
holes_same : (values others : Values) (holes : List Hole) → AgreeOn (flat_map hole_names holes) values others
    → flat_map (λ hole. hole.before ++ filled values hole.inside) holes ≡ flat_map (λ hole. hole.before ++ filled others hole.inside) holes
holes_same values others [] agree = refl
holes_same values others (hole ∷ holes) agree =
    let here = filled_same values others hole.inside (first_of_two (hole_names hole) (flat_map hole_names holes) values others agree) in
    let more = holes_same values others holes (second_of_two (hole_names hole) (flat_map hole_names holes) values others agree) in
    (λ k. (hole.before ++ here k) ++ more k)

-- a text
text_same : (values others : Values) (text : List ℕ) → AgreeOn (names_in_text text) values others → expanded values text ≡ expanded others text
text_same values others text agree = ap (λ s. s ++ (parts_of text).rest) (holes_same values others (parts_of text).holes agree)

-- a filter whose value depends on what it asks for alone
abbrev IsEnough : Filter → Type 0
IsEnough filter = (values others : Values) → AgreeOn (names_in filter) values others → filter_value values filter ≡ filter_value others filter

abbrev Part : Type 0
Part = (filter : Filter) × IsEnough filter

abbrev filter_of : Part → Filter
filter_of part = part.0

-- the values of several filters
values_same : (values others : Values) (parts : List Part) → AgreeOn (flat_map (λ names. names) (map names_in (map filter_of parts))) values others
    → map (filter_value values) (map filter_of parts) ≡ map (filter_value others) (map filter_of parts)
values_same values others [] agree = refl
values_same values others (part ∷ parts) agree =
    let rest = flat_map (λ names. names) (map names_in (map filter_of parts)) in
    let here = part.1 values others (first_of_two (names_in part.0) rest values others agree) in
    let more = values_same values others parts (second_of_two (names_in part.0) rest values others agree) in
    (λ k. here k ∷ more k)

-- a layer is enough where its parts are
layer_same : (values others : Values) (layer : Filter-F Part) → AgreeOn (layer_names (map-Filter Filter (List (List ℕ)) names_in (map-Filter Part Filter filter_of layer))) values others
    → layer_value values (map-Filter Filter (Option VarValue) (filter_value values) (map-Filter Part Filter filter_of layer))
    ≡ layer_value others (map-Filter Filter (Option VarValue) (filter_value others) (map-Filter Part Filter filter_of layer))
layer_same values others (Filter-F.Flag flag) agree = refl
layer_same values others (Filter-F.Text text) agree = ap (λ s. Some (Text s)) (text_same values others text agree)
layer_same values others (Filter-F.Var variable) agree = variable_same values others variable agree
layer_same values others (Filter-F.Rel op left right) agree =
    let one = left.1 values others (first_of_two (names_in left.0) (names_in right.0) values others agree) in
    let two = right.1 values others (second_of_two (names_in left.0) (names_in right.0) values others agree) in
    (λ k. value_of (related op (one k) (two k)))
layer_same values others (Filter-F.Not part) agree = ap (λ value. value_of (negated (truth_of value))) (part.1 values others agree)
layer_same values others (Filter-F.Defined part) agree = ap (λ value. Some (Flag (is_some value))) (part.1 values others agree)
layer_same values others (Filter-F.And parts) agree = ap (λ all. value_of (all_of (map truth_of all))) (values_same values others parts agree)
layer_same values others (Filter-F.Or parts) agree = ap (λ all. value_of (any_of (map truth_of all))) (values_same values others parts agree)

layer_enough : (layer : Filter-F Part) → IsEnough (roll-Filter (map-Filter Part Filter filter_of layer))
layer_enough layer values others agree =
    let filter = map-Filter Part Filter filter_of layer in
    fold-roll-Filter (Option VarValue) (layer_value values) filter
    ∙ layer_same values others layer (subst (λ (names : List (List ℕ)). AgreeOn names values others) (fold-roll-Filter (List (List ℕ)) layer_names filter) agree)
    ∙ sym (fold-roll-Filter (Option VarValue) (layer_value others) filter)

all_enough : (filter : Filter) → IsEnough filter
all_enough = ind-Filter IsEnough (λ layer parts is. subst (λ (x : Filter-F Filter). IsEnough (roll-Filter x)) is (layer_enough parts))

pub asked_is_enough : TextsRise → AskedIsEnough
asked_is_enough rise = record {
  filters = λ filter values others agree. all_enough filter values others (in_order rise (names_in filter) values others agree);
  texts = λ text values others agree. text_same values others text (in_order rise (names_in_text text) values others agree);
}

-- ---- names rise

each_once : TextsRise → (names : List (List ℕ)) → AreEachOnce names (in_byte_order names)
each_once rise names = record { rising = rise.rising names; members = rise.members names }

pub names_rise : TextsRise → NamesRise
names_rise rise = record {
  filters = λ filter. each_once rise (names_in filter);
  texts = λ text. each_once rise (names_in_text text);
  left = λ reduced. each_once rise (kept_names reduced);
}

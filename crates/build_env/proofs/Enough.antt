-- The job of a package depends on what it asks for: the variables of those packages alone give the same.
use Rattle.std.proofs.Common.{◌≡◌, ℕ, ◌≤◌, arith, Bool, true, false, cond, not, ◌&&◌, ◌||◌, List, [], ◌∷◌, ◌++◌, filter, map, bytes_eq, codes, nat_le, length, refl, sym, ap, subst, ◌∙◌}
use Rattle.std.proofs.lemmas.List.Elements.{All-head, All-tail}
use Rattle.std.proofs.lemmas.List.Folds.{list_any-append}
use Rattle.std.proofs.lemmas.Slice.Eq.{bytes_eq-Decides}
use Rattle.std.specs.Bool.{IsTrue}
use Rattle.std.specs.FinMap.{get}
use Rattle.std.specs.List.{All, flat_map, list_all, list_any}
use Rattle.std.specs.Option.{option_or}
use Rattle.std.specs.declared.option.Option.{Option}
use Rattle.std.specs.declared.option.Option.TheVariants.{None, Some}
use Rattle.opam_names.specs.Names.{IsName, is_letter, is_name, is_name_byte}
use Rattle.opam_names.specs.declared.limits.TheConstants.{NAME_LIMIT}
use Rattle.opam_names.specs.declared.packages.Pkg.{Pkg}
use Rattle.syntax_trees.specs.Words.{scope_parts}
use Rattle.syntax_trees.specs.declared.tree.Var.{Var}
use Rattle.opam_filter.specs.Asked.{asked, layer_names, names_in, names_in_text, names_of_scope}
use Rattle.opam_filter.specs.Laws.{AgreeOn, AskedIsEnough, NamesRise, is_scope_among}
use Rattle.opam_filter.specs.Scopes.{is_joined, value_at}
use Rattle.opam_filter.specs.Texts.{Hole, asked_for, expanded, parts_of, shown}
use Rattle.opam_filter.specs.Truths.{is_yes, truth_of}
use Rattle.opam_filter.specs.Values.{filter_value, layer_value}
use Rattle.opam_filter.specs.Variables.{Values}
use Rattle.opam_filter.specs.declared.filter.Filter.{Filter, roll-Filter}
use Rattle.opam_filter.specs.declared.filter.Filter.TheOpen.{Filter-F}
use Rattle.opam_filter.specs.declared.filter.Filter.TheFolds.{fold-roll-Filter, ind-Filter, map-Filter}
use Rattle.opam_filter.specs.declared.filter.Filter.TheVariants as filters
use Rattle.opam_filter.specs.declared.truth.VarValue.{VarValue}
use Rattle.opam_package.specs.declared.package.Arg.{Arg}
use Rattle.opam_package.specs.declared.package.Command.{Command}
use Rattle.opam_package.specs.declared.package.EnvUpdate.{EnvUpdate}
use Rattle.opam_package.specs.declared.package.Package.{Package}
use Rattle.opam_package.specs.declared.package.Word.{Word}
use Rattle.opam_package.specs.declared.package.Word.TheVariants as words
use Rattle.package_vars.specs.VariableLaws.{ScopesAreEnough, last_where}
use Rattle.package_vars.specs.declared.facts.Facts.{Facts}
use Rattle.package_vars.specs.declared.facts.View.{View}
use Rattle.build_env.specs.Environments.{Environment, variables_for, with_exports, with_sign, with_updates}
use Rattle.build_env.specs.JobLaws.{ExportsLookAlike, LookAlike}
use Rattle.build_env.specs.JobNames.{asked_by_arg, asked_by_command, asked_by_export, asked_by_filter, asked_by_job, asked_by_text, asked_by_update, asked_by_word}
use Rattle.build_env.specs.Jobs.{arg_text, is_started, is_taken, job_commands, words_of}
use Rattle.build_env.specs.Seen.{AreNamed, asked_by_own}
use Rattle.build_env.specs.declared.export.Export.{Export}

-- ---- names among names

abbrev pub Among : List (List ℕ) → List (List ℕ) → Type 0
Among small big = (name : List ℕ) → list_any (bytes_eq name) small ≡ true → list_any (bytes_eq name) big ≡ true

or_left : (x y : Bool) → x ≡ true → (x || y) ≡ true
or_left true y h = refl
or_left false y h = cc

or_right : (x y : Bool) → y ≡ true → (x || y) ≡ true
or_right true y h = refl
or_right false y h = h

or_either : (x y z : Bool) → (x ≡ true → z ≡ true) → (y ≡ true → z ≡ true) → (x || y) ≡ true → z ≡ true
or_either true y z f g h = f refl
or_either false y z f g h = g h

pub left_among : (xs ys : List (List ℕ)) → Among xs (xs ++ ys)
left_among xs ys name h = list_any-append (bytes_eq name) xs ys ∙ or_left (list_any (bytes_eq name) xs) (list_any (bytes_eq name) ys) h

pub right_among : (xs ys : List (List ℕ)) → Among ys (xs ++ ys)
right_among xs ys name h = list_any-append (bytes_eq name) xs ys ∙ or_right (list_any (bytes_eq name) xs) (list_any (bytes_eq name) ys) h

pub both_among : (xs ys big : List (List ℕ)) → Among xs big → Among ys big → Among (xs ++ ys) big
both_among xs ys big one two name h =
    or_either (list_any (bytes_eq name) xs) (list_any (bytes_eq name) ys) (list_any (bytes_eq name) big) (one name) (two name)
    (sym (list_any-append (bytes_eq name) xs ys) ∙ h)

pub within : (small big : List (List ℕ)) → Among small big → (scope : Option (List ℕ)) → IsTrue (is_scope_among small scope) → IsTrue (is_scope_among big scope)
within small big few None h = refl
within small big few (Some name) h =
    or_either (not (is_name name)) (list_any (bytes_eq name) small) (is_scope_among big (Some name))
    (λ e. or_left (not (is_name name)) (list_any (bytes_eq name) big) e)
    (λ e. or_right (not (is_name name)) (list_any (bytes_eq name) big) (few name e)) h

-- maps that agree on names agree on fewer
pub fewer : (small big : List (List ℕ)) (values others : Values) → Among small big → AgreeOn big values others → AgreeOn small values others
fewer small big values others few agree = λ variable h. agree variable (within small big few variable.scope h)

-- ---- updates, arguments and commands under maps that agree

pub updates_same : AskedIsEnough → (values others : Values) (updates : List EnvUpdate) (env : Environment)
    → AgreeOn (flat_map asked_by_update updates) values others → with_updates values env updates ≡ with_updates others env updates
updates_same enough values others [] env agree = refl
updates_same enough values others (update ∷ updates) env agree =
    let here = asked_by_update update in
    let more = flat_map asked_by_update updates in
    ap (λ v. with_updates values (with_sign env update.name update.op v) updates)
    (enough.texts update.value values others (fewer here (here ++ more) values others (left_among here more) agree))
    ∙ updates_same enough values others updates (with_sign env update.name update.op (expanded others update.value))
    (fewer more (here ++ more) values others (right_among here more) agree)

taken_same : AskedIsEnough → (values others : Values) (one : Option Filter) → AgreeOn (asked_by_filter one) values others → is_taken values one ≡ is_taken others one
taken_same enough values others None agree = refl
taken_same enough values others (Some one) agree = ap (λ value. is_yes (truth_of value)) (enough.filters one values others agree)

variable_value : (values : Values) (variable : Var) → filter_value values (filters.Var variable) ≡ value_at values variable
unfolding roll-Filter denote.Hole.Carrier.roll
variable_value values variable = fold-roll-Filter (Option VarValue) (layer_value values) (Filter-F.Var variable)

word_same : AskedIsEnough → (values others : Values) (word : Word) → AgreeOn (asked_by_word word) values others → arg_text values word ≡ arg_text others word
word_same enough values others (words.Text text) agree = enough.texts text values others agree
word_same enough values others (words.Var variable) agree =
    ap shown (sym (variable_value values variable) ∙ enough.filters (filters.Var variable) values others agree ∙ variable_value others variable)

args_same : AskedIsEnough → (values others : Values) (args : List Arg) → AgreeOn (flat_map asked_by_arg args) values others → words_of values args ≡ words_of others args
args_same enough values others [] agree = refl
args_same enough values others (arg ∷ args) agree =
    let here = asked_by_arg arg in
    let more = flat_map asked_by_arg args in
    let this = fewer here (here ++ more) values others (left_among here more) agree in
    let taken = taken_same enough values others arg.filter (fewer (asked_by_filter arg.filter) here values others (left_among (asked_by_filter arg.filter) (asked_by_word arg.word)) this) in
    let text = word_same enough values others arg.word (fewer (asked_by_word arg.word) here values others (right_among (asked_by_filter arg.filter) (asked_by_word arg.word)) this) in
    let rest = args_same enough values others args (fewer more (here ++ more) values others (right_among here more) agree) in
    ap (λ t. map (λ a. arg_text values a.word) (cond t (arg ∷ filter (λ a. is_taken values a.filter) args) (filter (λ a. is_taken values a.filter) args))) taken
    ∙ by (is_taken others arg.filter) text rest
  where
    by : (t : Bool) → arg_text values arg.word ≡ arg_text others arg.word → words_of values args ≡ words_of others args
        → map (λ a. arg_text values a.word) (cond t (arg ∷ filter (λ a. is_taken values a.filter) args) (filter (λ a. is_taken values a.filter) args))
        ≡ map (λ a. arg_text others a.word) (cond t (arg ∷ filter (λ a. is_taken others a.filter) args) (filter (λ a. is_taken others a.filter) args))
    by true text rest = λ k. text k ∷ rest k
    by false text rest = rest

-- the words of the commands that are taken
abbrev taken_words : Values → List Command → List (List (List ℕ))
taken_words values commands = map (λ command. words_of values command.args) (filter (λ command. is_taken values command.filter) commands)

commands_taken : AskedIsEnough → (values others : Values) (commands : List Command) → AgreeOn (flat_map asked_by_command commands) values others
    → taken_words values commands ≡ taken_words others commands
commands_taken enough values others [] agree = refl
commands_taken enough values others (command ∷ commands) agree =
    let here = asked_by_command command in
    let more = flat_map asked_by_command commands in
    let args = flat_map asked_by_arg command.args in
    let this = fewer here (here ++ more) values others (left_among here more) agree in
    let taken = taken_same enough values others command.filter (fewer (asked_by_filter command.filter) here values others (left_among (asked_by_filter command.filter) args) this) in
    let own = args_same enough values others command.args (fewer args here values others (right_among (asked_by_filter command.filter) args) this) in
    let rest = commands_taken enough values others commands (fewer more (here ++ more) values others (right_among here more) agree) in
    ap (λ t. map (λ c. words_of values c.args) (cond t (command ∷ filter (λ c. is_taken values c.filter) commands) (filter (λ c. is_taken values c.filter) commands))) taken
    ∙ by (is_taken others command.filter) own rest
  where
    by : (t : Bool) → words_of values command.args ≡ words_of others command.args → taken_words values commands ≡ taken_words others commands
        → map (λ c. words_of values c.args) (cond t (command ∷ filter (λ c. is_taken values c.filter) commands) (filter (λ c. is_taken values c.filter) commands))
        ≡ map (λ c. words_of others c.args) (cond t (command ∷ filter (λ c. is_taken others c.filter) commands) (filter (λ c. is_taken others c.filter) commands))
    by true own rest = λ k. own k ∷ rest k
    by false own rest = rest

pub commands_same : AskedIsEnough → (values others : Values) (commands : List Command) → AgreeOn (flat_map asked_by_command commands) values others
    → job_commands values commands ≡ job_commands others commands
commands_same enough values others commands agree = ap (filter is_started) (commands_taken enough values others commands agree)

-- ---- what is asked for are names

abbrev pub AreNames : List (List ℕ) → Type 0
AreNames names = (name : List ℕ) → list_any (bytes_eq name) names ≡ true → is_name name ≡ true

no_names : AreNames []
no_names name h = absurd (cc)

joined_names : (xs ys : List (List ℕ)) → AreNames xs → AreNames ys → AreNames (xs ++ ys)
joined_names xs ys one two name h =
    or_either (list_any (bytes_eq name) xs) (list_any (bytes_eq name) ys) (is_name name) (one name) (two name)
    (sym (list_any-append (bytes_eq name) xs ys) ∙ h)

flat_names : {X : Type 0} (names : X → List (List ℕ)) → ((x : X) → AreNames (names x)) → (xs : List X) → AreNames (flat_map names xs)
flat_names names each [] = no_names
flat_names names each (x ∷ xs) = joined_names (names x) (flat_map names xs) (each x) (flat_names names each xs)

filtered : (parts : List (List ℕ)) → AreNames (filter is_name parts)
filtered [] name h = absurd (cc)
filtered (part ∷ parts) name h = by (filtered parts name) (is_name part) refl h
  where
    by : (list_any (bytes_eq name) (filter is_name parts) ≡ true → is_name name ≡ true) → (t : Bool) → is_name part ≡ t → list_any (bytes_eq name) (cond t (part ∷ filter is_name parts) (filter is_name parts)) ≡ true → is_name name ≡ true
    by rest true is h =
        or_either (bytes_eq name part) (list_any (bytes_eq name) (filter is_name parts)) (is_name name)
        (λ e. ap is_name ((bytes_eq-Decides name part).0 e) ∙ is) rest h
    by rest false is h = rest h

of_scope : (scope : Option (List ℕ)) → AreNames (names_of_scope scope)
of_scope None = no_names
of_scope (Some scope) = filtered (cond (is_joined scope) (scope_parts scope) (scope ∷ []))

in_text : (text : List ℕ) → AreNames (names_in_text text)
in_text text = flat_names (λ (hole : Hole). names_of_scope (asked_for hole.inside).scope) (λ hole. of_scope (asked_for hole.inside).scope) (parts_of text).holes

-- a filter that asks for names alone
abbrev AsksNames : Filter → Type 0
AsksNames one = AreNames (names_in one)

abbrev Part : Type 0
Part = (one : Filter) × AsksNames one

abbrev filter_of : Part → Filter
filter_of part = part.0

parts_ask : (parts : List Part) → AreNames (flat_map (λ names. names) (map names_in (map filter_of parts)))
parts_ask [] = no_names
parts_ask (part ∷ parts) = joined_names (names_in part.0) (flat_map (λ names. names) (map names_in (map filter_of parts))) part.1 (parts_ask parts)

layer_asks : (layer : Filter-F Part) → AreNames (layer_names (map-Filter Filter (List (List ℕ)) names_in (map-Filter Part Filter filter_of layer)))
layer_asks (Filter-F.Flag flag) = no_names
layer_asks (Filter-F.Text text) = in_text text
layer_asks (Filter-F.Var variable) = of_scope variable.scope
layer_asks (Filter-F.Rel op left right) = joined_names (names_in left.0) (names_in right.0) left.1 right.1
layer_asks (Filter-F.Not part) = part.1
layer_asks (Filter-F.Defined part) = part.1
layer_asks (Filter-F.And parts) = parts_ask parts
layer_asks (Filter-F.Or parts) = parts_ask parts

rolled_asks : (layer : Filter-F Part) → AsksNames (roll-Filter (map-Filter Part Filter filter_of layer))
rolled_asks layer =
    subst (λ (names : List (List ℕ)). AreNames names) (sym (fold-roll-Filter (List (List ℕ)) layer_names (map-Filter Part Filter filter_of layer))) (layer_asks layer)

in_filter : (one : Filter) → AsksNames one
in_filter = ind-Filter AsksNames (λ layer parts is. subst (λ (x : Filter-F Filter). AsksNames (roll-Filter x)) is (rolled_asks parts))

asked_names : NamesRise → (one : Filter) → AreNames (asked one)
asked_names rise one name h = in_filter one name (sym ((rise.filters one).members name) ∙ h)

text_names : NamesRise → (text : List ℕ) → AreNames (asked_by_text text)
text_names rise text name h = in_text text name (sym ((rise.texts text).members name) ∙ h)

filter_names : NamesRise → (one : Option Filter) → AreNames (asked_by_filter one)
filter_names rise None = no_names
filter_names rise (Some one) = asked_names rise one

word_names : NamesRise → (word : Word) → AreNames (asked_by_word word)
word_names rise (words.Text text) = text_names rise text
word_names rise (words.Var variable) = asked_names rise (filters.Var variable)

arg_names : NamesRise → (arg : Arg) → AreNames (asked_by_arg arg)
arg_names rise arg = joined_names (asked_by_filter arg.filter) (asked_by_word arg.word) (filter_names rise arg.filter) (word_names rise arg.word)

command_names : NamesRise → (command : Command) → AreNames (asked_by_command command)
command_names rise command =
    joined_names (asked_by_filter command.filter) (flat_map asked_by_arg command.args) (filter_names rise command.filter) (flat_names asked_by_arg (arg_names rise) command.args)

updates_names : NamesRise → (updates : List EnvUpdate) → AreNames (flat_map asked_by_update updates)
updates_names rise updates = flat_names asked_by_update (λ update. text_names rise update.value) updates

pub export_names : NamesRise → (export : Export) → AreNames (asked_by_export export)
export_names rise export = updates_names rise export.updates

pub own_names : NamesRise → (built : Package) → AreNames (asked_by_own built)
own_names rise built =
    joined_names (flat_map asked_by_command built.commands) (flat_map asked_by_update built.build_env)
    (flat_names asked_by_command (command_names rise) built.commands) (updates_names rise built.build_env)

pub job_names : NamesRise → (built : Package) (exports : List Export) → AreNames (asked_by_job built exports)
job_names rise built exports =
    joined_names (asked_by_own built) (flat_map asked_by_export exports) (own_names rise built) (flat_names asked_by_export (export_names rise) exports)

-- ---- variables that agree

-- two lists of names have the same at each scope that some of both may have
asked_alike : (few one two : List (List ℕ)) → Among few one → Among few two → AreNames one → AreNames two
    → (scope : List ℕ) → IsTrue (is_scope_among few (Some scope)) → list_any (bytes_eq scope) one ≡ list_any (bytes_eq scope) two
asked_alike few one two in_one in_two named also scope h = by (is_name scope) refl h
  where
    not_there : (names : List (List ℕ)) → AreNames names → is_name scope ≡ false → (t : Bool) → list_any (bytes_eq scope) names ≡ t → t ≡ false
    not_there names are is true at = sym (are scope at) ∙ is
    not_there names are is false at = refl

    by : (t : Bool) → is_name scope ≡ t → (not t || list_any (bytes_eq scope) few) ≡ true → list_any (bytes_eq scope) one ≡ list_any (bytes_eq scope) two
    by true is h = in_one scope h ∙ sym (in_two scope h)
    by false is h = not_there one named is (list_any (bytes_eq scope) one) refl ∙ sym (not_there two also is (list_any (bytes_eq scope) two) refl)

pub variables_agree : ScopesAreEnough → (facts : Facts) (view other : View) (pkg : Pkg) (few one two : List (List ℕ))
    → Among few one → Among few two → AreNames one → AreNames two → LookAlike few view other pkg
    → AgreeOn few (variables_for facts view one pkg) (variables_for facts other two pkg)
variables_agree scopes facts view other pkg few one two in_one in_two named also look = λ variable h. by variable.scope variable.name h
  where
    by : (scope : Option (List ℕ)) (name : List ℕ) → IsTrue (is_scope_among few scope)
        → get (variables_for facts view one pkg) (record { scope = scope; name = name }) ≡ get (variables_for facts other two pkg) (record { scope = scope; name = name })
    by None name h = scopes.plain facts view other pkg one two name
    by (Some scope) name h =
        scopes.scoped facts view other pkg one two scope name (look scope h) (asked_alike few one two in_one in_two named also scope h)

-- ---- the exports

pub exports_same : AskedIsEnough → ScopesAreEnough → NamesRise → (facts : Facts) (view other : View) (one two : List (List ℕ)) (exports : List Export) (env : Environment)
    → Among (flat_map asked_by_export exports) one → Among (flat_map asked_by_export exports) two → AreNames one → AreNames two
    → All (ExportsLookAlike view other) exports
    → with_exports facts view one env exports ≡ with_exports facts other two env exports
exports_same enough scopes rise facts view other one two [] env in_one in_two named also look = refl
exports_same enough scopes rise facts view other one two (export ∷ exports) env in_one in_two named also look =
    let here = asked_by_export export in
    let more = flat_map asked_by_export exports in
    let first = left_among here more in
    let later = right_among here more in
    let agree = variables_agree scopes facts view other export.pkg here one two (λ name h. in_one name (first name h)) (λ name h. in_two name (first name h)) named also
    (All-head (ExportsLookAlike view other) export exports look) in
    ap (λ e. with_exports facts view one e exports)
    (updates_same enough (variables_for facts view one export.pkg) (variables_for facts other two export.pkg) export.updates env agree)
    ∙ exports_same enough scopes rise facts view other one two exports (with_updates (variables_for facts other two export.pkg) env export.updates)
    (λ name h. in_one name (later name h)) (λ name h. in_two name (later name h)) named also
    (All-tail (ExportsLookAlike view other) export exports look)

-- ---- the view by names

-- a part of a scope that is `_`, or no name
pub is_mark : (scope : List ℕ) → is_name scope ≡ true → bytes_eq scope (codes "_") ≡ false
is_mark scope is = by (bytes_eq scope (codes "_")) refl
  where
    by : (t : Bool) → bytes_eq scope (codes "_") ≡ t → t ≡ false
    by true e = sym is ∙ ap is_name ((bytes_eq-Decides scope (codes "_")).0 e)
    by false e = refl

pub names_pass : (name : List ℕ) → IsName name → is_name name ≡ true
names_pass name is = all_three (list_all is_name_byte name) (list_any is_letter name) (nat_le (length name) NAME_LIMIT) is.all is.letter (short_passes (length name) NAME_LIMIT is.short)
  where
    all_three : (x y z : Bool) → x ≡ true → y ≡ true → z ≡ true → (x && y && z) ≡ true
    all_three x y z a b c = ap (λ t. t && y && z) a ∙ ap (λ t. t && z) b ∙ c

    short_passes : (n m : ℕ) → n ≤ m → nat_le n m ≡ true
    short_passes n m h = grind arith

-- each has a name, one after another
abbrev pub EachNamed : List Pkg → Type 0
EachNamed [] = Unit {0}
EachNamed (pkg ∷ pkgs) = IsName pkg.name × EachNamed pkgs

pub each_named : (members : List Pkg) → AreNamed members → EachNamed members
each_named [] named = tt
each_named (pkg ∷ pkgs) named = (All-head (λ p. IsName p.name) pkg pkgs named, each_named pkgs (All-tail (λ p. IsName p.name) pkg pkgs named))

-- a test that no package with a name passes finds none
pub none_where : (test : Pkg → Bool) → ((pkg : Pkg) → IsName pkg.name → test pkg ≡ false) → (members : List Pkg) → EachNamed members → last_where test members ≡ None
none_where test fails [] named = refl
none_where test fails (pkg ∷ pkgs) named =
    ap (λ x. option_or x (cond (test pkg) (Some pkg) None)) (none_where test fails pkgs named.1)
    ∙ ap (λ t. cond t (Some pkg) None) (fails pkg named.0)

-- tests that say the same of packages with names find the same
pub same_where : (test other : Pkg → Bool) → ((pkg : Pkg) → IsName pkg.name → test pkg ≡ other pkg) → (members : List Pkg) → EachNamed members
    → last_where test members ≡ last_where other members
same_where test other same [] named = refl
same_where test other same (pkg ∷ pkgs) named =
    ap (λ x. option_or x (cond (test pkg) (Some pkg) None)) (same_where test other same pkgs named.1)
    ∙ ap (λ t. option_or (last_where other pkgs) (cond t (Some pkg) None)) (same pkg named.0)

-- The job over the packages that are asked for is the job over the whole view.
use Rattle.std.proofs.Common.{◌≡◌, ℕ, Bool, true, false, cond, not, ◌&&◌, ◌||◌, List, [], ◌∷◌, ◌++◌, bytes_eq, codes, refl, sym, ap, subst, ◌∙◌}
use Rattle.std.proofs.lemmas.Slice.Eq.{bytes_eq-Decides}
use Rattle.std.specs.List.{All, flat_map, list_any}
use Rattle.std.specs.Option.{IfSome, option_or, option_to_list}
use Rattle.std.specs.declared.option.Option.{Option}
use Rattle.std.specs.declared.option.Option.TheVariants.{None, Some}
use Rattle.opam_names.specs.Names.{IsName, is_name}
use Rattle.opam_names.specs.declared.packages.Pkg.{Pkg}
use Rattle.opam_filter.specs.Laws.{AgreeOn, AskedIsEnough, NamesRise}
use Rattle.opam_filter.specs.Variables.{Values}
use Rattle.opam_package.specs.declared.package.EnvUpdate.{EnvUpdate}
use Rattle.opam_package.specs.declared.package.Package.{Package}
use Rattle.outside_io.specs.declared.workshop.Job.{Job}
use Rattle.package_vars.specs.VariableLaws.{ScopesAreEnough, has_scope, last_where}
use Rattle.package_vars.specs.declared.facts.Facts.{Facts}
use Rattle.package_vars.specs.declared.facts.View.{View}
use Rattle.build_env.specs.Environments.{Environment, environment_of, variables_for, with_built, with_exports, with_pairs, with_updates}
use Rattle.build_env.specs.JobLaws.{EnvironmentIsOfExports, ExportsLookAlike, LookAlike}
use Rattle.build_env.specs.JobNames.{asked_by_command, asked_by_export, asked_by_job, asked_by_update}
use Rattle.build_env.specs.Jobs.{build_job, job_commands}
use Rattle.build_env.specs.Seen.{AreNamed, Named, asked_by_own, by_name, environment_seen, member_at, members_at, values_seen, view_seen, with_exports_seen}
use Rattle.build_env.specs.declared.export.Export.{Export}
use Rattle.build_env.proofs.Enough.{Among, AreNames, EachNamed, each_named, commands_same, export_names, exports_same, fewer, is_mark, job_names, left_among, names_pass, none_where, own_names, right_among, same_where, updates_same, variables_agree}
use Rattle.build_env.proofs.Named.{found_last, last_of_found}

-- ---- the packages that are found have names

last_named : (test : Pkg → Bool) (members : List Pkg) → EachNamed members → IfSome (last_where test members) (λ pkg. IsName pkg.name)
last_named test [] named = tt
last_named test (pkg ∷ pkgs) named = by (last_where test pkgs) (last_named test pkgs named.1) (test pkg)
  where
    by : (last : Option Pkg) → IfSome last (λ p. IsName p.name) → (t : Bool) → IfSome (option_or last (cond t (Some pkg) None)) (λ p. IsName p.name)
    by None h true = named.0
    by None h false = tt
    by (Some other) h t = h

found_named : (members : List Pkg) → EachNamed members → (names : List (List ℕ)) → EachNamed (members_at (by_name members) names)
found_named members named [] = tt
found_named members named (name ∷ names) =
    by (member_at (by_name members) name) (found_named members named names)
    (subst (λ (x : Option Pkg). IfSome x (λ pkg. IsName pkg.name)) (sym (found_last members name)) (last_named (λ pkg. bytes_eq name pkg.name) members named))
  where
    by : (x : Option Pkg) → EachNamed (members_at (by_name members) names) → IfSome x (λ pkg. IsName pkg.name)
        → EachNamed (option_to_list x ++ members_at (by_name members) names)
    by None rest h = rest
    by (Some pkg) rest h = (h, rest)

-- ---- the packages that are asked for stand for the view

alike_by : (members : List Pkg) → EachNamed members → (names : List (List ℕ)) (test : Pkg → Bool) (q : List ℕ)
    → ((pkg : Pkg) → IsName pkg.name → test pkg ≡ bytes_eq q pkg.name) → list_any (bytes_eq q) names ≡ true
    → last_where test members ≡ last_where test (members_at (by_name members) names)
alike_by members named names test q same there =
    same_where test (λ pkg. bytes_eq q pkg.name) same members named
    ∙ sym (found_last members q)
    ∙ sym (ap (λ t. cond t (member_at (by_name members) q) None) there)
    ∙ sym (last_of_found members names q)
    ∙ sym (same_where test (λ pkg. bytes_eq q pkg.name) same (members_at (by_name members) names) (found_named members named names))

bytes_eq_sym : (one other : List ℕ) → bytes_eq one other ≡ bytes_eq other one
bytes_eq_sym one other = by (bytes_eq one other) (bytes_eq other one) refl refl
  where
    by : (t u : Bool) → bytes_eq one other ≡ t → bytes_eq other one ≡ u → t ≡ u
    by true true a b = refl
    by false false a b = refl
    by true false a b = sym (sym b ∙ (bytes_eq-Decides other one).1 (sym ((bytes_eq-Decides one other).0 a)))
    by false true a b = sym a ∙ (bytes_eq-Decides one other).1 (sym ((bytes_eq-Decides other one).0 b))

-- a package with a name has no scope that is no name
is_apart : (scope : List ℕ) (pkg : Pkg) → is_name scope ≡ false → IsName pkg.name → bytes_eq scope pkg.name ≡ false
is_apart scope pkg is name = by (bytes_eq scope pkg.name) refl
  where
    by : (t : Bool) → bytes_eq scope pkg.name ≡ t → t ≡ false
    by true e = sym (names_pass pkg.name name) ∙ sym (ap is_name ((bytes_eq-Decides scope pkg.name).0 e)) ∙ is
    by false e = refl

seen_alike : (view : View) → EachNamed view.members → (pkg : Pkg) (asked : List (List ℕ)) → LookAlike asked view (view_seen (by_name view.members) pkg asked) pkg
seen_alike view named pkg asked scope h = by (is_name scope) (bytes_eq scope (codes "_")) refl refl h
  where
    or_false : (x y : Bool) → (x || (y && false)) ≡ x
    or_false true y = refl
    or_false false true = refl
    or_false false false = refl

    and_true : (y : Bool) → (y && true) ≡ y
    and_true true = refl
    and_true false = refl

    and_false : (y : Bool) → (y && false) ≡ false
    and_false true = refl
    and_false false = refl

    by : (t u : Bool) → is_name scope ≡ t → bytes_eq scope (codes "_") ≡ u → (not t || list_any (bytes_eq scope) asked) ≡ true
        → last_where (has_scope pkg scope) view.members ≡ last_where (has_scope pkg scope) (members_at (by_name view.members) (pkg.name ∷ asked))
    by true u is mark h =
        alike_by view.members named (pkg.name ∷ asked) (has_scope pkg scope) scope
        (λ member name. ap (λ m. bytes_eq scope member.name || (bytes_eq member.name pkg.name && m)) (is_mark scope is) ∙ or_false (bytes_eq scope member.name) (bytes_eq member.name pkg.name))
        (later (bytes_eq scope pkg.name) h)
      where
        later : (t : Bool) → list_any (bytes_eq scope) asked ≡ true → (t || list_any (bytes_eq scope) asked) ≡ true
        later true e = refl
        later false e = e
    by false true is mark h =
        alike_by view.members named (pkg.name ∷ asked) (has_scope pkg scope) pkg.name
        (λ member name.
        ap (λ x. x || (bytes_eq member.name pkg.name && bytes_eq scope (codes "_"))) (is_apart scope member is name)
        ∙ ap (λ m. bytes_eq member.name pkg.name && m) mark
        ∙ and_true (bytes_eq member.name pkg.name)
        ∙ bytes_eq_sym member.name pkg.name)
        (ap (λ t. t || list_any (bytes_eq pkg.name) asked) ((bytes_eq-Decides pkg.name pkg.name).1 refl))
    by false false is mark h =
        none_where (has_scope pkg scope) fails view.members named
        ∙ sym (none_where (has_scope pkg scope) fails (members_at (by_name view.members) (pkg.name ∷ asked)) (found_named view.members named (pkg.name ∷ asked)))
      where
        fails : (member : Pkg) → IsName member.name → has_scope pkg scope member ≡ false
        fails member name =
            ap (λ x. x || (bytes_eq member.name pkg.name && bytes_eq scope (codes "_"))) (is_apart scope member is name)
            ∙ ap (λ m. bytes_eq member.name pkg.name && m) mark
            ∙ and_false (bytes_eq member.name pkg.name)

seen_agree : ScopesAreEnough → (facts : Facts) (view : View) → EachNamed view.members → (pkg : Pkg) (asked all : List (List ℕ)) → Among asked all → AreNames asked → AreNames all
    → AgreeOn asked (values_seen facts (by_name view.members) pkg asked) (variables_for facts view all pkg)
seen_agree scopes facts view named pkg asked all among some more =
    variables_agree scopes facts (view_seen (by_name view.members) pkg asked) view pkg asked asked all (λ name h. h) among some more
    (λ scope h. sym (seen_alike view named pkg asked scope h))

exports_seen : AskedIsEnough → ScopesAreEnough → NamesRise → (facts : Facts) (view : View) → EachNamed view.members → (all : List (List ℕ)) (exports : List Export) (env : Environment)
    → Among (flat_map asked_by_export exports) all → AreNames all
    → with_exports_seen facts (by_name view.members) env exports ≡ with_exports facts view all env exports
exports_seen enough scopes rise facts view named all [] env among more = refl
exports_seen enough scopes rise facts view named all (export ∷ exports) env among more =
    let here = asked_by_export export in
    let rest = flat_map asked_by_export exports in
    let seen = values_seen facts (by_name view.members) export.pkg here in
    let whole = variables_for facts view all export.pkg in
    let agree = seen_agree scopes facts view named export.pkg here all (λ name h. among name (left_among here rest name h)) (export_names rise export) more in
    ap (λ e. with_exports_seen facts (by_name view.members) e exports) (updates_same enough seen whole export.updates env agree)
    ∙ exports_seen enough scopes rise facts view named all exports (with_updates whole env export.updates) (λ name h. among name (right_among here rest name h)) more

-- ---- the job

own_among : (built : Package) (exports : List Export) → Among (asked_by_own built) (asked_by_job built exports)
own_among built exports = left_among (asked_by_own built) (flat_map asked_by_export exports)

exports_among : (built : Package) (exports : List Export) → Among (flat_map asked_by_export exports) (asked_by_job built exports)
exports_among built exports = right_among (asked_by_own built) (flat_map asked_by_export exports)

pub job_is_same : AskedIsEnough → ScopesAreEnough → NamesRise → (built : Package) (view : View) (exports : List Export) (facts : Facts) (members : List Pkg) (named : Named) (vars : Values) (made : Job)
    → members ≡ view.members → named ≡ by_name members → AreNamed members → vars ≡ values_seen facts named built.pkg (asked_by_own built)
    → made.pkg ≡ built.pkg → made.source ≡ built.source → made.commands ≡ job_commands vars built.commands
    → made.env ≡ environment_seen facts named vars built exports
    → made ≡ build_job built view exports facts
job_is_same enough scopes rise built view exports facts members named vars made are by_names have is_vars pkg source commands env =
    let all = asked_by_job built exports in
    let own = asked_by_own built in
    let there = by_name view.members in
    let valid = subst EachNamed are (each_named members have) in
    let at : named ≡ there = by_names ∙ ap by_name are in
    let seen = values_seen facts there built.pkg own in
    let is : vars ≡ seen = is_vars ∙ ap (λ n. values_seen facts n built.pkg own) at in
    let whole = variables_for facts view all built.pkg in
    let agree = seen_agree scopes facts view valid built.pkg own all (own_among built exports) (own_names rise built) (job_names rise built exports) in
    let of_commands = flat_map asked_by_command built.commands in
    let of_updates = flat_map asked_by_update built.build_env in
    let given = with_built (with_pairs [] facts.env) facts.prefix built.pkg in
    let same_commands = commands ∙ ap (λ v. job_commands v built.commands) is
    ∙ commands_same enough seen whole built.commands (fewer of_commands own seen whole (left_among of_commands of_updates) agree) in
    let same_env = env ∙ ap (λ n. environment_seen facts n vars built exports) at ∙ ap (λ v. environment_seen facts there v built exports) is
    ∙ ap (λ e. with_updates seen e built.build_env) (exports_seen enough scopes rise facts view valid all exports given (exports_among built exports) (job_names rise built exports))
    ∙ updates_same enough seen whole built.build_env (with_exports facts view all given exports) (fewer of_updates own seen whole (right_among of_commands of_updates) agree) in
    (λ i. record { pkg = pkg i; source = source i; commands = same_commands i; env = same_env i })

-- ---- the law

environment_same : AskedIsEnough → ScopesAreEnough → NamesRise → (facts : Facts) (view other : View) (one two : List (List ℕ)) (pkg : Pkg) (exports : List Export) (own : List EnvUpdate)
    → Among (flat_map asked_by_update own) one → Among (flat_map asked_by_update own) two
    → Among (flat_map asked_by_export exports) one → Among (flat_map asked_by_export exports) two
    → AreNames one → AreNames two → LookAlike (flat_map asked_by_update own) view other pkg → All (ExportsLookAlike view other) exports
    → environment_of facts view one pkg exports own ≡ environment_of facts other two pkg exports own
environment_same enough scopes rise facts view other one two pkg exports own own_one own_two in_one in_two named also look each =
    let given = with_built (with_pairs [] facts.env) facts.prefix pkg in
    let mine = variables_for facts view one pkg in
    let theirs = variables_for facts other two pkg in
    ap (λ e. with_updates mine e own) (exports_same enough scopes rise facts view other one two exports given in_one in_two named also each)
    ∙ updates_same enough mine theirs own (with_exports facts other two given exports)
    (variables_agree scopes facts view other pkg (flat_map asked_by_update own) one two own_one own_two named also look)

updates_among : (built : Package) (exports : List Export) → Among (flat_map asked_by_update built.build_env) (asked_by_job built exports)
updates_among built exports name h =
    own_among built exports name (right_among (flat_map asked_by_command built.commands) (flat_map asked_by_update built.build_env) name h)

pub environment_is_of_exports : AskedIsEnough → ScopesAreEnough → NamesRise → EnvironmentIsOfExports
environment_is_of_exports enough scopes rise = record {
  commands = λ built other view exports facts pkg own.
      ap (λ p. environment_of facts view (asked_by_job other exports) p exports other.build_env) pkg
      ∙ ap (λ updates. environment_of facts view (asked_by_job other exports) built.pkg exports updates) own
      ∙ environment_same enough scopes rise facts view view (asked_by_job other exports) (asked_by_job built exports) built.pkg exports built.build_env
      (subst (λ (updates : List EnvUpdate). Among (flat_map asked_by_update updates) (asked_by_job other exports)) own (updates_among other exports))
      (updates_among built exports) (exports_among other exports) (exports_among built exports)
      (job_names rise other exports) (job_names rise built exports) (λ scope h. refl) (λ k d lt scope h. refl);
  members = λ built view other exports facts look each.
      sym (environment_same enough scopes rise facts view other (asked_by_job built exports) (asked_by_job built exports) built.pkg exports built.build_env
      (updates_among built exports) (updates_among built exports) (exports_among built exports) (exports_among built exports)
      (job_names rise built exports) (job_names rise built exports) look each);
}

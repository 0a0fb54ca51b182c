-- Contents of one switch go on alike: a record that follows on the one follows on the other, and they are of one switch then.
use Rattle.std.proofs.Common.{◌≡◌, ◌∙◌, ℕ, List, [], ◌∷◌, ◌++◌, map, filter, fold, Bool, true, false, not, cond, refl, sym, ap, subst, Option, Some, None, if◌then◌else◌}
use Rattle.std.specs.Prelude.{◌&&◌, ◌||◌, bytes_eq, is_some}
use Rattle.std.specs.List.{list_all, list_any}
use Rattle.std.proofs.lemmas.List.{map-append}
use Rattle.std.proofs.lemmas.Slice.Eq.{bytes_eq-Decides}
use Rattle.journal_text.specs.Parts.{paths_of}
use Rattle.journal_text.specs.declared.record.Entry.{Entry}
use Rattle.journal_text.specs.declared.record.KeptFiles.{KeptFiles}
use Rattle.journal_text.specs.declared.record.Placed.{Placed}
use Rattle.journal_text.specs.declared.record.Rec.{Rec}
use Rattle.journal_text.specs.declared.record.Rec.TheVariants.{Install, PutBack, Remove, Begin, End}
use Rattle.opam_names.specs.declared.packages.Pkg.{Pkg}
use Rattle.owner_map.specs.Owning.{is_of_another, is_owned_by, owner_of}
use Rattle.owner_map.specs.Owning as owning
use Rattle.path_order.specs.Apart.{meets}
use Rattle.switch_journal.specs.Applying.{applied, are_few, are_few_paths, are_kept_right, are_removed, begun, can_come, ended, entries_of, has_name, has_pkg, installed, is_another, is_before_all_back, is_entry_with, is_kept_removal, is_named, is_next, is_of, is_owner, is_put_back, is_same_entry, may_stand, next_removal, only_if, own, put_back, removed, with_done, with_package, without_package}
use Rattle.switch_journal.specs.Contents.{Contents, entry_of}
use Rattle.switch_journal.specs.Journal.{removal_of, work_of}
use Rattle.switch_journal.specs.Snapshots.{IsSameSwitch}
use Rattle.switch_journal.specs.declared.request.Done.{Done}
use Rattle.switch_journal.specs.declared.request.Done.TheVariants as done
use Rattle.switch_journal.specs.declared.request.Open.{Open}

-- ---- one switch

pub same_self : (c : Contents) → IsSameSwitch c c
same_self c = record { entries = refl; owned = refl; roots = λ name. refl; request = refl }

pub same_back : {c d : Contents} → IsSameSwitch c d → IsSameSwitch d c
same_back same = record { entries = sym same.entries; owned = sym same.owned; roots = λ name. sym (same.roots name); request = sym same.request }

pub same_then : {c d e : Contents} → IsSameSwitch c d → IsSameSwitch d e → IsSameSwitch c e
same_then one two = record {
  entries = two.entries ∙ one.entries;
  owned = two.owned ∙ one.owned;
  roots = λ name. two.roots name ∙ one.roots name;
  request = two.request ∙ one.request;
}

-- ---- what is said after a record

-- a test holds, and these contents are said
pub record IsOnly (can : Bool) (x after : Contents) : Type 0 where
  pub can_be : can ≡ true
  pub few : (are_few (entries_of x) && are_few_paths x.owned) ≡ true
  pub same : x ≡ after

only_by : (can small : Bool) (x after : Contents) → (are_few (entries_of x) && are_few_paths x.owned) ≡ small → (if can && small then Some x else None) ≡ Some after → IsOnly can x after
only_by true true x after few is = record { can_be = refl; few = few; same = cc }
only_by true false x after few is = absurd (cc)
only_by false small x after few is = absurd (cc)

pub only : (can : Bool) (x after : Contents) → only_if can x ≡ Some after → IsOnly can x after
only can x after is = only_by can (are_few (entries_of x) && are_few_paths x.owned) x after refl is

-- what is said is of one switch with these contents
pub record GoesAlike (after : Contents) (result : Option Contents) : Type 0 where
  pub next : Contents
  pub is : result ≡ Some next
  pub same : IsSameSwitch after next

none_goes : (after : Contents) {P : Type 0} → None ≡ Some after → P
none_goes after is = absurd (cc)

pub both_hold : (can few : Bool) (y : Contents) → can ≡ true → few ≡ true → (if can && few then Some y else None) ≡ Some y
both_hold true true y one two = refl
both_hold true false y one two = absurd (cc)
both_hold false few y one two = absurd (cc)

only_alike : (can could : Bool) (x y after : Contents) → could ≡ can → IsSameSwitch x y → only_if can x ≡ Some after → GoesAlike after (only_if could y)
only_alike can could x y after tests same is =
    let it = only can x after is in
    let few : (are_few (entries_of y) && are_few_paths y.owned) ≡ true = (λ i. are_few (same.entries i) && are_few_paths (same.owned i)) ∙ it.few in
    record {
      next = y;
      is = both_hold could (are_few (entries_of y) && are_few_paths y.owned) y (tests ∙ it.can_be) few;
      same = subst (λ (z : Contents). IsSameSwitch z y) it.same same;
    }

-- ---- what is changed

come_alike : (from : List ℕ) (pkg : Pkg) (opam : List ℕ) (files : List Placed) (what : Done) (request : Open) {c d : Contents} → IsSameSwitch c d
    → IsSameSwitch (with_done what request (with_package from pkg opam files c)) (with_done what request (with_package from pkg opam files d))
come_alike from pkg opam files what request {c} {d} same =
    let entry : Entry = record { pkg = pkg; opam = opam } in
    record {
      entries = map-append entry_of d.standing ((record { entry = entry; from = from }) ∷ []) ∙ ap (λ (es : List Entry). es ++ entry ∷ []) same.entries ∙ sym (map-append entry_of c.standing ((record { entry = entry; from = from }) ∷ []));
      owned = ap (λ o. fold (own pkg) o (paths_of files)) same.owned;
      roots = same.roots;
      request = refl;
    }

abbrev keeps : Pkg → Entry → Bool
keeps pkg entry = not (is_of pkg entry)

filter_said : (pkg : Pkg) (c : Contents) → map entry_of (filter (is_another pkg) c.standing) ≡ filter (keeps pkg) (entries_of c)
filter_said pkg c = each c.standing
  where
    each : (ss : _) → map entry_of (filter (is_another pkg) ss) ≡ filter (keeps pkg) (map entry_of ss)
    each [] = refl
    each (s ∷ ss) = by (keeps pkg s.entry) (each ss)
      where
        by : (b : Bool) → map entry_of (filter (is_another pkg) ss) ≡ filter (keeps pkg) (map entry_of ss) → map entry_of (cond b (s ∷ filter (is_another pkg) ss) (filter (is_another pkg) ss)) ≡ cond b (s.entry ∷ filter (keeps pkg) (map entry_of ss)) (filter (keeps pkg) (map entry_of ss))
        by true later = ap (λ (es : List Entry). s.entry ∷ es) later
        by false later = later

go_alike : (pkg : Pkg) (what : Done) (request : Open) {c d : Contents} → IsSameSwitch c d → IsSameSwitch (with_done what request (without_package pkg c)) (with_done what request (without_package pkg d))
go_alike pkg what request {c} {d} same = record {
  entries = filter_said pkg d ∙ ap (filter (keeps pkg)) same.entries ∙ sym (filter_said pkg c);
  owned = ap (filter (is_of_another pkg)) same.owned;
  roots = same.roots;
  request = refl;
}

-- ---- each kind of record

come_tests : (pkg : Pkg) (files : List Placed) {c d : Contents} → IsSameSwitch c d → can_come pkg files d ≡ can_come pkg files c
come_tests pkg files same = λ i. not (list_any (is_named pkg.name) (same.entries i)) && not (list_any (λ path. list_any (meets path) (owning.paths_of (same.owned i))) (paths_of files))

installed_alike : (from : List ℕ) (pkg : Pkg) (opam : List ℕ) (files : List Placed) {c d : Contents} (after : Contents) (request : Option Open) → IsSameSwitch c d → installed from pkg opam files c request ≡ Some after → GoesAlike after (installed from pkg opam files d request)
installed_alike from pkg opam files after None same is = none_goes after is
installed_alike from pkg opam files {c} {d} after (Some request) same is =
    let front = are_removed request && not (list_any is_put_back request.done) && list_any (is_same_entry (record { pkg = pkg; opam = opam })) request.target in
    only_alike (front && can_come pkg files c) (front && can_come pkg files d) (with_done (done.Installed pkg) request (with_package from pkg opam files c)) (with_done (done.Installed pkg) request (with_package from pkg opam files d)) after
    (ap (λ b. front && b) (come_tests pkg files same)) (come_alike from pkg opam files (done.Installed pkg) request same) is

put_back_alike : (from : List ℕ) (pkg : Pkg) (opam : List ℕ) (files : List Placed) {c d : Contents} (after : Contents) (request : Option Open) → IsSameSwitch c d → put_back from pkg opam files c request ≡ Some after → GoesAlike after (put_back from pkg opam files d request)
put_back_alike from pkg opam files after None same is = none_goes after is
put_back_alike from pkg opam files {c} {d} after (Some request) same is =
    let front = are_removed request && list_any (is_kept_removal pkg) request.done && list_any (is_named pkg.name) request.target && is_before_all_back pkg request in
    only_alike (front && can_come pkg files c) (front && can_come pkg files d) (with_done (done.PutBack pkg) request (with_package from pkg opam files c)) (with_done (done.PutBack pkg) request (with_package from pkg opam files d)) after
    (ap (λ b. front && b) (come_tests pkg files same)) (come_alike from pkg opam files (done.PutBack pkg) request same) is

kept_tests : (pkg : Pkg) (kept : Option KeptFiles) {c d : Contents} → IsSameSwitch c d → are_kept_right pkg kept d ≡ are_kept_right pkg kept c
kept_tests pkg None same = refl
kept_tests pkg (Some kept) same = λ i. list_any (is_entry_with pkg kept.opam) (same.entries i) && list_all (λ path. is_owner pkg (owner_of path (same.owned i))) (paths_of kept.files)

has_tests : (pkg : Pkg) {c d : Contents} → IsSameSwitch c d → has_pkg d pkg ≡ has_pkg c pkg
has_tests pkg same = ap (list_any (is_of pkg)) same.entries

removed_alike : (number : ℕ) (pkg : Pkg) (kept : Option KeptFiles) {c d : Contents} (after : Contents) (request : Option Open) → IsSameSwitch c d → removed number pkg kept c request ≡ Some after → GoesAlike after (removed number pkg kept d request)
removed_alike number pkg kept after None same is = none_goes after is
removed_alike number pkg kept {c} {d} after (Some request) same is =
    let next = is_next pkg (next_removal request) in
    only_alike (next && has_pkg c pkg && are_kept_right pkg kept c) (next && has_pkg d pkg && are_kept_right pkg kept d) (with_done (done.Removed pkg number (is_some kept)) request (without_package pkg c)) (with_done (done.Removed pkg number (is_some kept)) request (without_package pkg d)) after
    (λ i. next && has_tests pkg same i && kept_tests pkg kept same i) (go_alike pkg (done.Removed pkg number (is_some kept)) request same) is

begun_alike : (from : List ℕ) (roots : List (List ℕ)) (target : List Entry) (removals : List Pkg) {c d : Contents} (after : Contents) (request : Option Open) → IsSameSwitch c d → begun from roots target removals c request ≡ Some after → GoesAlike after (begun from roots target removals d request)
begun_alike from roots target removals after (Some request) same is = none_goes after is
begun_alike from roots target removals {c} {d} after None same is =
    only_alike (list_all (has_pkg c) removals && list_all (may_stand target removals) (entries_of c) && are_few target) (list_all (has_pkg d) removals && list_all (may_stand target removals) (entries_of d) && are_few target)
    (record { standing = c.standing; owned = c.owned; roots = roots; request = Some (record { from = from; target = target; removals = removals; done = [] }) })
    (record { standing = d.standing; owned = d.owned; roots = roots; request = Some (record { from = from; target = target; removals = removals; done = [] }) }) after
    (λ i. list_all (λ pkg. list_any (is_of pkg) (same.entries i)) removals && list_all (may_stand target removals) (same.entries i) && are_few target)
    (record { entries = same.entries; owned = same.owned; roots = λ name. refl; request = refl }) is

-- a name among roots of which some are dropped
name_is : (name x : List ℕ) → bytes_eq name x ≡ true → name ≡ x
name_is name x is = (bytes_eq-Decides name x).0 is

kept_by : (p : List ℕ → Bool) (name x : List ℕ) (rest : Bool) (other : Bool) (same keep : Bool) → bytes_eq name x ≡ same → p x ≡ keep → other ≡ (rest && p name) → cond keep (same || other) other ≡ ((same || rest) && p name)
kept_by p name x rest other true true is keep later = sym (ap p (name_is name x is) ∙ keep)
kept_by p name x rest other true false is keep later =
    let no : p name ≡ false = ap p (name_is name x is) ∙ keep in
    later ∙ (λ i. rest && no i) ∙ and_false rest ∙ sym no
  where
    and_false : (b : Bool) → (b && false) ≡ false
    and_false true = refl
    and_false false = refl
kept_by p name x rest other false true is keep later = later
kept_by p name x rest other false false is keep later = later

any_cond : (t : List ℕ → Bool) (keep : Bool) (x : List ℕ) (xs : List (List ℕ)) → list_any t (cond keep (x ∷ xs) xs) ≡ cond keep (t x || list_any t xs) (list_any t xs)
any_cond t true x xs = refl
any_cond t false x xs = refl

pub any_kept : (p : List ℕ → Bool) (name : List ℕ) (names : List (List ℕ)) → list_any (bytes_eq name) (filter p names) ≡ (list_any (bytes_eq name) names && p name)
any_kept p name [] = refl
any_kept p name (x ∷ names) = any_cond (bytes_eq name) (p x) x (filter p names) ∙ kept_by p name x (list_any (bytes_eq name) names) (list_any (bytes_eq name) (filter p names)) (bytes_eq name x) (p x) refl refl (any_kept p name names)

ended_alike : {c d : Contents} (after : Contents) (request : Option Open) → IsSameSwitch c d → ended c request ≡ Some after → GoesAlike after (ended d request)
ended_alike after None same is = none_goes after is
ended_alike {c} {d} after (Some request) same is =
    let of : (e : Contents) → List ℕ → Bool = λ e name. has_name name e in
    only_alike true true
    (record { standing = c.standing; owned = c.owned; roots = filter (of c) c.roots; request = None })
    (record { standing = d.standing; owned = d.owned; roots = filter (of d) d.roots; request = None }) after refl
    (record {
      entries = same.entries;
      owned = same.owned;
      roots = λ name. any_kept (of d) name d.roots ∙ (λ i. same.roots name i && list_any (is_named name) (same.entries i)) ∙ sym (any_kept (of c) name c.roots);
      request = refl;
    }) is

-- ---- all of them

-- a record that can follow on the one can follow on the other
pub alike : (number : ℕ) (from : List ℕ) (entry : Rec) {c d : Contents} (after : Contents) → IsSameSwitch c d → applied number from entry c ≡ Some after → GoesAlike after (applied number from entry d)
alike number from (Install pkg opam files) {c} {d} after same is = subst (λ (r : Option Open). GoesAlike after (installed from pkg opam files d r)) (sym same.request) (installed_alike from pkg opam files after c.request same is)
alike number from (PutBack pkg opam files) {c} {d} after same is = subst (λ (r : Option Open). GoesAlike after (put_back from pkg opam files d r)) (sym same.request) (put_back_alike from pkg opam files after c.request same is)
alike number from (Remove pkg kept) {c} {d} after same is = subst (λ (r : Option Open). GoesAlike after (removed number pkg kept d r)) (sym same.request) (removed_alike number pkg kept after c.request same is)
alike number from (Begin roots target removals) {c} {d} after same is = subst (λ (r : Option Open). GoesAlike after (begun from roots target removals d r)) (sym same.request) (begun_alike from roots target removals after c.request same is)
alike number from End {c} {d} after same is = subst (λ (r : Option Open). GoesAlike after (ended d r)) (sym same.request) (ended_alike after c.request same is)

-- and has the same work
pub same_work : (entry : Rec) {c d : Contents} → IsSameSwitch c d → work_of entry d ≡ work_of entry c
same_work (Install pkg opam files) same = refl
same_work (PutBack pkg opam files) same = refl
same_work (Remove pkg kept) same = λ i. map removal_of (owning.paths_of (filter (is_owned_by pkg) (same.owned i)))
same_work (Begin roots target removals) same = refl
same_work End same = refl

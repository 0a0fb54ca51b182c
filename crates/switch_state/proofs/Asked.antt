-- What the record of an action asks of the open request.
use Rattle.std.proofs.Common.{◌≡◌, ℕ, List, Bool, true, not, refl, Option, Some, None}
use Rattle.std.specs.Prelude.{◌&&◌, IfSome, is_some}
use Rattle.std.specs.List.{list_any}
use Rattle.opam_names.specs.declared.packages.Pkg.{Pkg}
use Rattle.journal_text.specs.declared.record.KeptFiles.{KeptFiles}
use Rattle.journal_text.specs.declared.record.Placed.{Placed}
use Rattle.switch_journal.specs.Applying.{are_kept_right, are_removed, can_come, has_pkg, installed, is_before_all_back, is_kept_removal, is_named, is_next, is_put_back, is_same_entry, next_removal, put_back, removed, with_done, with_package, without_package}
use Rattle.switch_journal.specs.Contents.{Contents}
use Rattle.switch_journal.specs.declared.request.Done.{Done}
use Rattle.switch_journal.specs.declared.request.Done.TheVariants as done
use Rattle.switch_journal.specs.declared.request.Open.{Open}
use Rattle.switch_state.specs.Actions.{and_noted, noted}
use Rattle.switch_state.specs.State.{Request}
use Rattle.switch_state.proofs.Alike.{only}
use Rattle.switch_state.proofs.SoundKept.{and_left, and_right}

-- what is said of an open request is said of it once it has done one thing more
pub asked_after : (P Q : Request → Type 0) (what : Done) (request : Option Request) → IfSome request P → ((r : Request) → request ≡ Some r → P r → Q (and_noted what r)) → IfSome (noted what request) Q
asked_after P Q what None old more = tt
asked_after P Q what (Some r) old more = more r refl old

pub install_asks : (from : List ℕ) (pkg : Pkg) (opam : List ℕ) (files : List Placed) (c after : Contents) (r : Open) → installed from pkg opam files c (Some r) ≡ Some after → are_removed r ≡ true
install_asks from pkg opam files c after r is =
    let a = are_removed r in
    let b = not (list_any is_put_back r.done) in
    let e = list_any (is_same_entry (record { pkg = pkg; opam = opam })) r.target in
    let it = only (a && b && e && can_come pkg files c) (with_done (done.Installed pkg) r (with_package from pkg opam files c)) after is in
    and_left a b (and_left (a && b) e (and_left (a && b && e) (can_come pkg files c) it.can_be))

-- all removals are done, and the package is one of them with kept files
pub back_asks : (from : List ℕ) (pkg : Pkg) (opam : List ℕ) (files : List Placed) (c after : Contents) (r : Open) → put_back from pkg opam files c (Some r) ≡ Some after → (are_removed r ≡ true) × (list_any (is_kept_removal pkg) r.done ≡ true)
back_asks from pkg opam files c after r is =
    let a = are_removed r in
    let b = list_any (is_kept_removal pkg) r.done in
    let e = list_any (is_named pkg.name) r.target in
    let f = is_before_all_back pkg r in
    let it = only (a && b && e && f && can_come pkg files c) (with_done (done.PutBack pkg) r (with_package from pkg opam files c)) after is in
    let both = and_left (a && b) e (and_left (a && b && e) f (and_left (a && b && e && f) (can_come pkg files c) it.can_be)) in
    (and_left a b both, and_right a b both)

pub removal_asks : (number : ℕ) (pkg : Pkg) (kept : Option KeptFiles) (c after : Contents) (r : Open) → removed number pkg kept c (Some r) ≡ Some after → is_next pkg (next_removal r) ≡ true
removal_asks number pkg kept c after r is =
    let a = is_next pkg (next_removal r) in
    let b = has_pkg c pkg in
    let it = only (a && b && are_kept_right pkg kept c) (with_done (done.Removed pkg number (is_some kept)) r (without_package pkg c)) after is in
    and_left a b (and_left (a && b) (are_kept_right pkg kept c) it.can_be)

-- What is said after a record that was applied.
use Rattle.std.proofs.Common.{◌≡◌, ℕ, List, [], filter, Bool, true, false, not, refl, Option, Some, None, if◌then◌else◌}
use Rattle.std.specs.Prelude.{◌&&◌, is_some}
use Rattle.std.specs.List.{list_all, list_any}
use Rattle.journal_text.specs.declared.record.Entry.{Entry}
use Rattle.journal_text.specs.declared.record.KeptFiles.{KeptFiles}
use Rattle.journal_text.specs.declared.record.Placed.{Placed}
use Rattle.opam_names.specs.declared.packages.Pkg.{Pkg}
use Rattle.switch_journal.specs.Applying.{are_few, are_kept_right, are_removed, begun, can_come, ended, entries_of, has_name, has_pkg, installed, is_before_all_back, is_kept_removal, is_named, is_next, is_put_back, is_same_entry, may_stand, next_removal, only_if, put_back, removed, with_done, with_package, without_package}
use Rattle.switch_journal.specs.Contents.{Contents}
use Rattle.switch_journal.specs.Reading.{is_small}
use Rattle.switch_journal.specs.declared.request.Done.TheVariants as done
use Rattle.switch_journal.specs.declared.request.Open.{Open}

-- these contents are what is said then, and they are within the limits
pub record IsSaid (x after : Contents) : Type 0 where
  pub same : x ≡ after
  pub small : is_small x ≡ true

said_if : (can small : Bool) (x after : Contents) → is_small x ≡ small → (if can && small then Some x else None) ≡ Some after → IsSaid x after
said_if true true x after small is = record { same = cc; small = small }
said_if true false x after small is = absurd (cc)
said_if false small x after same is = absurd (cc)

said : (can : Bool) (x after : Contents) → only_if can x ≡ Some after → IsSaid x after
said can x after is = said_if can (is_small x) x after refl is

pub installed_is : (from : List ℕ) (pkg : Pkg) (opam : List ℕ) (files : List Placed) (c : Contents) (request : Open) (after : Contents) → installed from pkg opam files c (Some request) ≡ Some after
    → IsSaid (with_done (done.Installed pkg) request (with_package from pkg opam files c)) after
installed_is from pkg opam files c request after is =
    said
    (are_removed request && not (list_any is_put_back request.done) && list_any (is_same_entry (record { pkg = pkg; opam = opam })) request.target && can_come pkg files c)
    (with_done (done.Installed pkg) request (with_package from pkg opam files c)) after is

pub put_back_is : (from : List ℕ) (pkg : Pkg) (opam : List ℕ) (files : List Placed) (c : Contents) (request : Open) (after : Contents) → put_back from pkg opam files c (Some request) ≡ Some after
    → IsSaid (with_done (done.PutBack pkg) request (with_package from pkg opam files c)) after
put_back_is from pkg opam files c request after is =
    said
    (are_removed request && list_any (is_kept_removal pkg) request.done && list_any (is_named pkg.name) request.target && is_before_all_back pkg request && can_come pkg files c)
    (with_done (done.PutBack pkg) request (with_package from pkg opam files c)) after is

pub removed_is : (number : ℕ) (pkg : Pkg) (kept : Option KeptFiles) (c : Contents) (request : Open) (after : Contents) → removed number pkg kept c (Some request) ≡ Some after
    → IsSaid (with_done (done.Removed pkg number (is_some kept)) request (without_package pkg c)) after
removed_is number pkg kept c request after is =
    said (is_next pkg (next_removal request) && has_pkg c pkg && are_kept_right pkg kept c) (with_done (done.Removed pkg number (is_some kept)) request (without_package pkg c)) after is

-- a request that has begun
abbrev pub with_request : List ℕ → List (List ℕ) → List Entry → List Pkg → Contents → Contents
with_request from roots target removals c = record {
  standing = c.standing;
  owned = c.owned;
  roots = roots;
  request = Some (record { from = from; target = target; removals = removals; done = [] });
}

pub begun_is : (from : List ℕ) (roots : List (List ℕ)) (target : List Entry) (removals : List Pkg) (c after : Contents) → begun from roots target removals c None ≡ Some after → IsSaid (with_request from roots target removals c) after
begun_is from roots target removals c after is =
    said (list_all (has_pkg c) removals && list_all (may_stand target removals) (entries_of c) && are_few target) (with_request from roots target removals c) after is

-- a request that has ended
abbrev pub without_request : Contents → Contents
without_request c = record { standing = c.standing; owned = c.owned; roots = filter (λ name. has_name name c) c.roots; request = None }

pub ended_is : (c : Contents) (request : Open) (after : Contents) → ended c (Some request) ≡ Some after → IsSaid (without_request c) after
ended_is c request after is = said true (without_request c) after is

pub old_installed_is : (from : List ℕ) (pkg : Pkg) (opam : List ℕ) (files : List Placed) (c after : Contents) → only_if (can_come pkg files c) (with_package from pkg opam files c) ≡ Some after → IsSaid (with_package from pkg opam files c) after
old_installed_is from pkg opam files c after is = said (can_come pkg files c) (with_package from pkg opam files c) after is

pub old_removed_is : (pkg : Pkg) (c after : Contents) → only_if (has_pkg c pkg) (without_package pkg c) ≡ Some after → IsSaid (without_package pkg c) after
old_removed_is pkg c after is = said (has_pkg c pkg) (without_package pkg c) after is

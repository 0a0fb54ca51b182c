-- What is asked of parts of a switch before a record is applied, and what is said after it. This module is for private clauses. This
-- project's own.
use Rattle.std.specs.Prelude.{ℕ, List, [], Bool, false, filter, not, ◌&&◌, if◌then◌else◌}
use Rattle.std.specs.List.{list_all, list_any}
use Rattle.std.specs.Option.{option_map}
use Rattle.std.specs.declared.option.Option.{Option}
use Rattle.std.specs.declared.option.Option.TheVariants.{None, Some}
use Rattle.opam_names.specs.declared.packages.Pkg.{Pkg}
use Rattle.path_order.specs.Apart.{meets}
use Rattle.journal_text.specs.declared.record.Entry.{Entry}
use Rattle.journal_text.specs.declared.record.KeptFiles.{KeptFiles}
use Rattle.journal_text.specs.declared.record.Placed.{Placed}
use Rattle.owner_map.specs.Owning.{owner_of}
use Rattle.owner_map.specs.Owning as owning
use Rattle.owner_map.specs.declared.owned.OwnedPath.{OwnedPath}
use Rattle.switch_journal.specs.Applying.{and_done, are_few, are_kept_right, are_removed, entries_of, has_name, has_pkg, is_before_all_back, is_kept_removal, is_named, is_next, is_of, is_owner, is_put_back, is_same_entry, may_stand, next_removal}
use Rattle.switch_journal.specs.Applying as applying
use Rattle.switch_journal.specs.Contents.{Contents}
use Rattle.switch_journal.specs.Reading.{is_small}
use Rattle.switch_journal.specs.declared.request.Done.{Done}
use Rattle.switch_journal.specs.declared.request.Open.{Open}

-- some of these paths meets an owned one
abbrev pub meets_any : List OwnedPath → List (List ℕ) → Bool
meets_any owned paths = list_any (λ path. list_any (meets path) (owning.paths_of owned)) paths

-- a package can come with files at these paths
abbrev pub can_come : List Entry → List OwnedPath → Pkg → List (List ℕ) → Bool
can_come entries owned pkg paths = not (list_any (is_named pkg.name) entries) && not (meets_any owned paths)

-- the package owns each of these paths
abbrev pub are_owned : List OwnedPath → Pkg → List (List ℕ) → Bool
are_owned owned pkg paths = list_all (λ path. is_owner pkg (owner_of path owned)) paths

-- each of these packages is installed
abbrev pub are_standing : List Entry → List Pkg → Bool
are_standing entries pkgs = list_all (λ pkg. list_any (is_of pkg) entries) pkgs

-- ---- what a record of each kind asks

-- a request is open, its removals are done, nothing was put back, the package is a member with that opam text, and can come
abbrev pub may_install : Pkg → List ℕ → List Placed → Contents → Option Open → Bool
may_install pkg opam files c None = false
may_install pkg opam files c (Some request) =
    are_removed request && not (list_any is_put_back request.done)
    && list_any (is_same_entry (record { pkg = pkg; opam = opam })) request.target && applying.can_come pkg files c

-- a request is open, its removals are done, the package is one of them with kept files and may come back next, and can come
abbrev pub may_put_back : Pkg → List Placed → Contents → Option Open → Bool
may_put_back pkg files c None = false
may_put_back pkg files c (Some request) =
    are_removed request && list_any (is_kept_removal pkg) request.done && list_any (is_named pkg.name) request.target
    && is_before_all_back pkg request && applying.can_come pkg files c

-- a request is open, the package is the next of its removals and is installed, and what is kept is right
abbrev pub may_remove : Pkg → Option KeptFiles → Contents → Option Open → Bool
may_remove pkg kept c None = false
may_remove pkg kept c (Some request) = is_next pkg (next_removal request) && has_pkg c pkg && are_kept_right pkg kept c

-- no request is open, each removal is installed, each other package is a member, and the members are few
abbrev pub may_begin : List Entry → List Pkg → Contents → Option Open → Bool
may_begin target removals c (Some request) = false
may_begin target removals c None = list_all (has_pkg c) removals && list_all (may_stand target removals) (entries_of c) && are_few target

-- ---- what is said then

-- an open request has done one thing more
abbrev pub noted : Done → Contents → Contents
noted what c = record { standing = c.standing; owned = c.owned; roots = c.roots; request = option_map (and_done what) c.request }

-- a request is open
abbrev pub asked : List ℕ → List (List ℕ) → List Entry → List Pkg → Contents → Contents
asked from roots target removals c = record {
  standing = c.standing;
  owned = c.owned;
  roots = roots;
  request = Some (record { from = from; target = target; removals = removals; done = [] });
}

-- no request is open, and names that are not installed were not asked for
abbrev pub closed : Contents → Contents
closed c = record { standing = c.standing; owned = c.owned; roots = filter (λ name. has_name name c) c.roots; request = None }

-- contents within the limits
abbrev pub if_small : Contents → Option Contents
if_small c = if is_small c then Some c else None

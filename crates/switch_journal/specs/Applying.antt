-- What a counted record does: when it can be applied, and what the journal says after it. This project's own.
use Rattle.std.specs.Prelude.{ℕ, ◌+◌, List, [], ◌∷◌, ◌++◌, length, map, filter, fold, slice_get, Bool, true, false, not, is_some, nat_le, bytes_eq, ◌==◌, ◌&&◌, ◌||◌, if◌then◌else◌}
use Rattle.std.specs.List.{list_all, list_any}
use Rattle.std.specs.declared.option.Option.{Option}
use Rattle.std.specs.declared.option.Option.TheVariants.{None, Some}
use Rattle.opam_names.specs.ByteOrders.{put_by}
use Rattle.opam_names.specs.declared.packages.Pkg.{Pkg}
use Rattle.path_order.specs.Apart.{meets}
use Rattle.journal_text.specs.Parts.{paths_of}
use Rattle.journal_text.specs.declared.record.Entry.{Entry}
use Rattle.journal_text.specs.declared.record.KeptFiles.{KeptFiles}
use Rattle.journal_text.specs.declared.record.Placed.{Placed}
use Rattle.journal_text.specs.declared.record.Rec.{Rec}
use Rattle.journal_text.specs.declared.record.Rec.TheVariants.{Install, PutBack, Remove, Begin, End}
use Rattle.owner_map.specs.Owning.{is_of_another, is_same_pkg, owned_by, owner_of, path_of}
use Rattle.owner_map.specs.Owning as owning
use Rattle.owner_map.specs.declared.owned.OwnedPath.{OwnedPath}
use Rattle.switch_journal.specs.Contents.{Contents, entry_of}
use Rattle.switch_journal.specs.declared.request.Done.{Done}
use Rattle.switch_journal.specs.declared.request.Done.TheVariants as done
use Rattle.switch_journal.specs.declared.request.Open.{Open}
use Rattle.switch_journal.specs.declared.request.TheConstants.{ENTRY_LIMIT, OWNED_LIMIT, TEXT_LIMIT}
use Rattle.switch_journal.specs.declared.standing.Standing.{Standing}

-- ---- what is installed

-- the bytes of opam texts together
abbrev pub text_total : List Entry → ℕ
text_total [] = 0
text_total (entry ∷ entries) = length entry.opam + text_total entries

-- a switch, or a target, has no more than this
abbrev pub are_few : List Entry → Bool
are_few entries = nat_le (length entries) ENTRY_LIMIT && nat_le (text_total entries) TEXT_LIMIT

-- a switch owns no more paths than this
abbrev pub are_few_paths : List OwnedPath → Bool
are_few_paths owned = nat_le (length owned) OWNED_LIMIT

-- the entry is of a package of this name
abbrev pub is_named : List ℕ → Entry → Bool
is_named name entry = bytes_eq name entry.pkg.name

-- that very package, name and version
abbrev pub is_of : Pkg → Entry → Bool
is_of pkg entry = is_same_pkg entry.pkg pkg

-- the same package with the same opam text
abbrev pub is_same_entry : Entry → Entry → Bool
is_same_entry one other = is_same_pkg one.pkg other.pkg && bytes_eq one.opam other.opam

-- the packages that are installed, with their opam texts
abbrev pub entries_of : Contents → List Entry
entries_of c = map entry_of c.standing

-- a package of this name is installed
abbrev pub has_name : List ℕ → Contents → Bool
has_name name c = list_any (is_named name) (entries_of c)

-- that very package is installed
abbrev pub has_pkg : Contents → Pkg → Bool
has_pkg c pkg = list_any (is_of pkg) (entries_of c)

-- a path meets an owned one: it is the same, above it or below it
abbrev pub meets_owned : Contents → List ℕ → Bool
meets_owned c path = list_any (meets path) (owning.paths_of c.owned)

-- a package can come: none of its name is installed, and none of its files meets an owned path
abbrev pub can_come : Pkg → List Placed → Contents → Bool
can_come pkg files c = not (has_name pkg.name c) && not (list_any (meets_owned c) (paths_of files))

-- its paths among the owned ones
abbrev pub own : Pkg → List OwnedPath → List ℕ → List OwnedPath
own pkg owned path = put_by path_of (owned_by path pkg) owned

-- a package comes last, with its files
abbrev pub with_package : List ℕ → Pkg → List ℕ → List Placed → Contents → Contents
with_package from pkg opam files c = record {
  standing = c.standing ++ (record { entry = record { pkg = pkg; opam = opam }; from = from }) ∷ [];
  owned = fold (own pkg) c.owned (paths_of files);
  roots = c.roots;
  request = c.request;
}

-- what is installed is not that very package
abbrev pub is_another : Pkg → Standing → Bool
is_another pkg s = not (is_of pkg s.entry)

-- a package goes, with its paths
abbrev pub without_package : Pkg → Contents → Contents
without_package pkg c = record {
  standing = filter (is_another pkg) c.standing;
  owned = filter (is_of_another pkg) c.owned;
  roots = c.roots;
  request = c.request;
}

-- ---- the open request

-- a package was removed
abbrev pub is_removal : Done → Bool
is_removal (done.Removed pkg number kept) = true
is_removal (done.Installed pkg) = false
is_removal (done.PutBack pkg) = false

-- a package was put back
abbrev pub is_put_back : Done → Bool
is_put_back (done.Removed pkg number kept) = false
is_put_back (done.Installed pkg) = false
is_put_back (done.PutBack pkg) = true

-- this package was removed, and its record keeps its files
abbrev pub is_kept_removal : Pkg → Done → Bool
is_kept_removal pkg (done.Removed gone number kept) = kept && is_same_pkg gone pkg
is_kept_removal pkg (done.Installed other) = false
is_kept_removal pkg (done.PutBack other) = false

-- that very package was put back
abbrev pub puts_back : Pkg → Done → Bool
puts_back pkg (done.Removed gone number kept) = false
puts_back pkg (done.Installed other) = false
puts_back pkg (done.PutBack back) = is_same_pkg back pkg

-- how many of its removals are done
abbrev pub removed_count : Open → ℕ
removed_count request = length (filter is_removal request.done)

-- all of its removals are done
abbrev pub are_removed : Open → Bool
are_removed request = removed_count request == length request.removals

-- the removal that comes next
abbrev pub next_removal : Open → Option Pkg
next_removal request = slice_get request.removals (removed_count request)

-- the removal that comes next is of that very package
abbrev pub is_next : Pkg → Option Pkg → Bool
is_next pkg None = false
is_next pkg (Some next) = is_same_pkg next pkg

-- the removals up to this package, itself among them
abbrev pub up_to : Pkg → List Pkg → List Pkg
up_to pkg [] = []
up_to pkg (removal ∷ removals) = removal ∷ (if is_same_pkg removal pkg then [] else up_to pkg removals)

-- a package that was put back
abbrev pub is_back : Open → Pkg → Bool
is_back request pkg = list_any (puts_back pkg) request.done

-- it stands in the removals before all that were put back
abbrev pub is_before_all_back : Pkg → Open → Bool
is_before_all_back pkg request = not (list_any (is_back request) (up_to pkg request.removals))

-- the request has done one thing more
abbrev pub and_done : Done → Open → Open
and_done what request = record { from = request.from; target = request.target; removals = request.removals; done = request.done ++ what ∷ [] }

-- what is said once the open request has done one thing more
abbrev pub with_done : Done → Open → Contents → Contents
with_done what request c = record { standing = c.standing; owned = c.owned; roots = c.roots; request = Some (and_done what request) }

-- ---- the kinds of records

-- what is said after it, if it can be applied
abbrev pub only_if : Bool → Contents → Option Contents
only_if can after = if can && (are_few (entries_of after) && are_few_paths after.owned) then Some after else None

-- an install: a request is open, its removals are done, nothing was put back, the package is a member with that opam text, and it
-- can come
abbrev pub installed : List ℕ → Pkg → List ℕ → List Placed → Contents → Option Open → Option Contents
installed from pkg opam files c None = None
installed from pkg opam files c (Some request) =
    only_if
    (are_removed request && not (list_any is_put_back request.done)
    && list_any (is_same_entry (record { pkg = pkg; opam = opam })) request.target && can_come pkg files c)
    (with_done (done.Installed pkg) request (with_package from pkg opam files c))

-- a put back: a request is open, its removals are done, the package is one of them with kept files, its name is a member's, it
-- stands in the removals before all that were put back, and it can come
abbrev pub put_back : List ℕ → Pkg → List ℕ → List Placed → Contents → Option Open → Option Contents
put_back from pkg opam files c None = None
put_back from pkg opam files c (Some request) =
    only_if
    (are_removed request && list_any (is_kept_removal pkg) request.done && list_any (is_named pkg.name) request.target
    && is_before_all_back pkg request && can_come pkg files c)
    (with_done (done.PutBack pkg) request (with_package from pkg opam files c))

-- the entry has this opam text
abbrev pub is_entry_with : Pkg → List ℕ → Entry → Bool
is_entry_with pkg opam entry = is_of pkg entry && bytes_eq entry.opam opam

-- the owner is that very package
abbrev pub is_owner : Pkg → Option Pkg → Bool
is_owner pkg None = false
is_owner pkg (Some owner) = is_same_pkg owner pkg

-- the package owns the path
abbrev pub owns : Contents → Pkg → List ℕ → Bool
owns c pkg path = is_owner pkg (owner_of path c.owned)

-- what a removal keeps is the entry's opam text and files at paths that the package owns
abbrev pub are_kept_right : Pkg → Option KeptFiles → Contents → Bool
are_kept_right pkg None c = true
are_kept_right pkg (Some kept) c =
    list_any (is_entry_with pkg kept.opam) (entries_of c) && list_all (owns c pkg) (paths_of kept.files)

-- a removal: a request is open, this is the next of its removals, the package is installed, and what is kept is right
abbrev pub removed : ℕ → Pkg → Option KeptFiles → Contents → Option Open → Option Contents
removed number pkg kept c None = None
removed number pkg kept c (Some request) =
    only_if (is_next pkg (next_removal request) && has_pkg c pkg && are_kept_right pkg kept c)
    (with_done (done.Removed pkg number (is_some kept)) request (without_package pkg c))

-- an entry may be there as the request begins: it is to be removed, or it is a member
abbrev pub may_stand : List Entry → List Pkg → Entry → Bool
may_stand target removals entry = list_any (λ pkg. is_of pkg entry) removals || list_any (is_same_entry entry) target

-- a begin: no request is open, each removal is an entry, each other entry is a member, and the members are few
abbrev pub begun : List ℕ → List (List ℕ) → List Entry → List Pkg → Contents → Option Open → Option Contents
begun from roots target removals c (Some request) = None
begun from roots target removals c None =
    only_if (list_all (has_pkg c) removals && list_all (may_stand target removals) (entries_of c) && are_few target)
    (record {
      standing = c.standing;
      owned = c.owned;
      roots = roots;
      request = Some (record { from = from; target = target; removals = removals; done = [] });
    })

-- an end: a request is open; roots that are no entries are dropped
abbrev pub ended : Contents → Option Open → Option Contents
ended c None = None
ended c (Some request) =
    only_if true (record { standing = c.standing; owned = c.owned; roots = filter (λ name. has_name name c) c.roots; request = None })

-- the record with this number and path, by its kind
abbrev pub applied : ℕ → List ℕ → Rec → Contents → Option Contents
applied number from (Install pkg opam files) c = installed from pkg opam files c c.request
applied number from (PutBack pkg opam files) c = put_back from pkg opam files c c.request
applied number from (Remove pkg kept) c = removed number pkg kept c c.request
applied number from (Begin roots target removals) c = begun from roots target removals c c.request
applied number from End c = ended c c.request

-- ---- the old format, without requests

-- an install: the package can come; a removal: it is installed
abbrev pub old_applied : List ℕ → Rec → Contents → Option Contents
old_applied from (Install pkg opam files) c = only_if (can_come pkg files c) (with_package from pkg opam files c)
old_applied from (Remove pkg kept) c = only_if (has_pkg c pkg) (without_package pkg c)
old_applied from (PutBack pkg opam files) c = None
old_applied from (Begin roots target removals) c = None
old_applied from End c = None

-- The work of a counted record lies outside of the journal, and no package owns a path of it.
use Rattle.std.proofs.Common.{◌≡◌, ℕ, List, [], ◌∷◌, map, filter, fold, Bool, true, false, not, cond, slice_get, refl, sym, subst, ap, Option, Some, None, if◌then◌else◌}
use Rattle.std.specs.Prelude.{◌||◌, ◌&&◌, bytes_eq}
use Rattle.std.specs.List.{cons_option, filter_map, list_all, list_any}
use Rattle.std.specs.Option.{option_map}
use Rattle.crash_disk.specs.Disks.{Tree}
use Rattle.crash_disk.specs.declared.batch.Write.{Write}
use Rattle.journal_text.specs.Parts.{AreFree, is_own, own_folder}
use Rattle.journal_text.specs.Parts as parts
use Rattle.journal_text.specs.Records.{IsInOrder}
use Rattle.journal_text.specs.Slots.{owned_paths}
use Rattle.journal_text.specs.declared.record.Entry.{Entry}
use Rattle.journal_text.specs.declared.record.KeptFiles.{KeptFiles}
use Rattle.journal_text.specs.declared.record.Placed.{Placed}
use Rattle.journal_text.specs.declared.record.Rec.{Rec}
use Rattle.journal_text.specs.declared.record.Rec.TheVariants.{Install, PutBack, Remove, Begin, End}
use Rattle.journal_text.specs.declared.slot.Owned.{Owned}
use Rattle.journal_text.specs.declared.slot.Snapshot.{Snapshot}
use Rattle.opam_names.specs.ByteOrders.{precedes, put_by}
use Rattle.opam_names.specs.Paths.{is_above}
use Rattle.opam_names.specs.declared.packages.Pkg.{Pkg}
use Rattle.owner_map.specs.Owning.{is_of_another, is_owned_by, owned_by, path_of, paths_of}
use Rattle.owner_map.specs.declared.owned.OwnedPath.{OwnedPath}
use Rattle.switch_journal.specs.Applying.{begun, ended, installed, own, put_back, removed}
use Rattle.switch_journal.specs.Commits.{is_outside}
use Rattle.switch_journal.specs.Contents.{Contents}
use Rattle.switch_journal.specs.Journal.{CountsTo, Head, IsReadAt, no_more, one_more, paths_owned_by, put_of, removal_of, said_by, work_of}
use Rattle.switch_journal.specs.Places.{record_path}
use Rattle.switch_journal.specs.Reading.{FoundSlot, SlotIs, SpellsRecord, SpellsSlot, after_record, counting, first_contents, is_found, owned_with, second_counts}
use Rattle.switch_journal.specs.declared.request.Open.{Open}
use Rattle.switch_journal.proofs.Applied.{IsSaid, begun_is, ended_is, installed_is, old_installed_is, old_removed_is, put_back_is, removed_is}

-- no path is the switch's own folder or below it
abbrev IsFreeOf : List OwnedPath → Type 0
IsFreeOf owned = list_any is_own (paths_of owned) ≡ false

abbrev AreOutside : List Write → Type 0
AreOutside writes = list_all is_outside writes ≡ true

left_false : (a b : Bool) → (a || b) ≡ false → a ≡ false
left_false true b is = absurd (cc)
left_false false b is = refl

right_false : (a b : Bool) → (a || b) ≡ false → b ≡ false
right_false true b is = absurd (cc)
right_false false b is = is

both_false : (a b : Bool) → a ≡ false → b ≡ false → (a || b) ≡ false
both_false a b p q = rw (p, q) refl

both_true : (a b : Bool) → a ≡ true → b ≡ true → (a && b) ≡ true
both_true a b p q = rw (p, q) refl

outside_of : (path : List ℕ) → is_own path ≡ false → not (is_above own_folder path) ≡ true
outside_of path free = ap not (right_false (bytes_eq path own_folder) (is_above own_folder path) free)

puts_outside : (files : List Placed) → list_any is_own (parts.paths_of files) ≡ false → AreOutside (map put_of files)
puts_outside [] free = refl
puts_outside (file ∷ files) free =
    both_true (not (is_above own_folder file.path)) (list_all is_outside (map put_of files)) (outside_of file.path (left_false (is_own file.path) (list_any is_own (parts.paths_of files)) free))
    (puts_outside files (right_false (is_own file.path) (list_any is_own (parts.paths_of files)) free))

removals_outside : (paths : List (List ℕ)) → list_any is_own paths ≡ false → AreOutside (map removal_of paths)
removals_outside [] free = refl
removals_outside (path ∷ paths) free =
    both_true (not (is_above own_folder path)) (list_all is_outside (map removal_of paths)) (outside_of path (left_false (is_own path) (list_any is_own paths) free))
    (removals_outside paths (right_false (is_own path) (list_any is_own paths) free))

-- ---- what is owned

filter_by : (b : Bool) (test : OwnedPath → Bool) (o : OwnedPath) (owned : List OwnedPath) → is_own o.path ≡ false → IsFreeOf (filter test owned) → IsFreeOf (cond b (o ∷ filter test owned) (filter test owned))
filter_by true test o owned here more = both_false (is_own o.path) (list_any is_own (paths_of (filter test owned))) here more
filter_by false test o owned here more = more

filter_free : (test : OwnedPath → Bool) (owned : List OwnedPath) → IsFreeOf owned → IsFreeOf (filter test owned)
filter_free test [] free = refl
filter_free test (o ∷ owned) free =
    filter_by (test o) test o owned (left_false (is_own o.path) (list_any is_own (paths_of owned)) free)
    (filter_free test owned (right_false (is_own o.path) (list_any is_own (paths_of owned)) free))

put_by_free : (b : Bool) (o p : OwnedPath) (owned more : List OwnedPath) → is_own o.path ≡ false → IsFreeOf (p ∷ owned) → IsFreeOf more → IsFreeOf (if b then p ∷ more else o ∷ p ∷ owned)
put_by_free true o p owned more here free rest = both_false (is_own p.path) (list_any is_own (paths_of more)) (left_false (is_own p.path) (list_any is_own (paths_of owned)) free) rest
put_by_free false o p owned more here free rest = both_false (is_own o.path) (list_any is_own (paths_of (p ∷ owned))) here free

put_free : (o : OwnedPath) (owned : List OwnedPath) → is_own o.path ≡ false → IsFreeOf owned → IsFreeOf (put_by path_of o owned)
put_free o [] here free = both_false (is_own o.path) false here refl
put_free o (p ∷ owned) here free =
    put_by_free (precedes p.path o.path) o p owned (put_by path_of o owned) here free (put_free o owned here (right_false (is_own p.path) (list_any is_own (paths_of owned)) free))

own_free : (pkg : Pkg) (owned : List OwnedPath) (paths : List (List ℕ)) → IsFreeOf owned → list_any is_own paths ≡ false → IsFreeOf (fold (own pkg) owned paths)
own_free pkg owned [] free paths_free = free
own_free pkg owned (path ∷ paths) free paths_free =
    own_free pkg (own pkg owned path) paths
    (put_free (owned_by path pkg) owned (left_false (is_own path) (list_any is_own paths) paths_free) free)
    (right_false (is_own path) (list_any is_own paths) paths_free)

no_contents : (after : Contents) → None ≡ Some after → ⊥
no_contents after is = absurd (cc)

free_by : (x after : Contents) → IsSaid x after → IsFreeOf x.owned → IsFreeOf after.owned
free_by x after is free = subst (λ (c : Contents). IsFreeOf c.owned) is.same free

installed_free : (from : List ℕ) (pkg : Pkg) (opam : List ℕ) (files : List Placed) (c : Contents) (request : Option Open) (after : Contents) → list_any is_own (parts.paths_of files) ≡ false → installed from pkg opam files c request ≡ Some after → IsFreeOf c.owned → IsFreeOf after.owned
installed_free from pkg opam files c None after files_free is free = absurd (no_contents after is)
installed_free from pkg opam files c (Some request) after files_free is free = free_by _ after (installed_is from pkg opam files c request after is) (own_free pkg c.owned (parts.paths_of files) free files_free)

put_back_free : (from : List ℕ) (pkg : Pkg) (opam : List ℕ) (files : List Placed) (c : Contents) (request : Option Open) (after : Contents) → list_any is_own (parts.paths_of files) ≡ false → put_back from pkg opam files c request ≡ Some after → IsFreeOf c.owned → IsFreeOf after.owned
put_back_free from pkg opam files c None after files_free is free = absurd (no_contents after is)
put_back_free from pkg opam files c (Some request) after files_free is free = free_by _ after (put_back_is from pkg opam files c request after is) (own_free pkg c.owned (parts.paths_of files) free files_free)

removed_free : (number : ℕ) (pkg : Pkg) (kept : Option KeptFiles) (c : Contents) (request : Option Open) (after : Contents) → removed number pkg kept c request ≡ Some after → IsFreeOf c.owned → IsFreeOf after.owned
removed_free number pkg kept c None after is free = absurd (no_contents after is)
removed_free number pkg kept c (Some request) after is free = free_by _ after (removed_is number pkg kept c request after is) (filter_free (is_of_another pkg) c.owned free)

begun_free : (from : List ℕ) (roots : List (List ℕ)) (target : List Entry) (removals : List Pkg) (c : Contents) (request : Option Open) (after : Contents) → begun from roots target removals c request ≡ Some after → IsFreeOf c.owned → IsFreeOf after.owned
begun_free from roots target removals c None after is free = free_by _ after (begun_is from roots target removals c after is) free
begun_free from roots target removals c (Some request) after is free = absurd (no_contents after is)

ended_free : (c : Contents) (request : Option Open) (after : Contents) → ended c request ≡ Some after → IsFreeOf c.owned → IsFreeOf after.owned
ended_free c None after is free = absurd (no_contents after is)
ended_free c (Some request) after is free = free_by _ after (ended_is c request after is) free

record_free : (old : Bool) (number : ℕ) (entry : Rec) (c after : Contents) → IsInOrder entry → after_record old number entry c ≡ Some after → IsFreeOf c.owned → IsFreeOf after.owned
record_free true number (Install pkg opam files) c after order is free = free_by _ after (old_installed_is (record_path number) pkg opam files c after is) (own_free pkg c.owned (parts.paths_of files) free order.free)
record_free true number (Remove pkg kept) c after order is free = free_by _ after (old_removed_is pkg c after is) (filter_free (is_of_another pkg) c.owned free)
record_free true number (PutBack pkg opam files) c after order is free = absurd (no_contents after is)
record_free true number (Begin roots target removals) c after order is free = absurd (no_contents after is)
record_free true number End c after order is free = absurd (no_contents after is)
record_free false number (Install pkg opam files) c after order is free = installed_free (record_path number) pkg opam files c c.request after order.free is free
record_free false number (PutBack pkg opam files) c after order is free = put_back_free (record_path number) pkg opam files c c.request after order.free is free
record_free false number (Remove pkg kept) c after order is free = removed_free number pkg kept c c.request after is free
record_free false number (Begin roots target removals) c after order is free = begun_free (record_path number) roots target removals c c.request after is free
record_free false number End c after order is free = ended_free c c.request after is free

-- ---- the work

pub record_outside : (entry : Rec) (c : Contents) → IsInOrder entry → IsFreeOf c.owned → AreOutside (work_of entry c)
record_outside (Install pkg opam files) c order free = puts_outside files order.free
record_outside (PutBack pkg opam files) c order free = puts_outside files order.free
record_outside (Remove pkg kept) c order free = removals_outside (paths_owned_by pkg c) (filter_free (is_owned_by pkg) c.owned free)
record_outside (Begin roots target removals) c order free = refl
record_outside End c order free = refl

spelled_order : (old : Bool) (entry : Rec) (text : List ℕ) → SpellsRecord old entry text → IsInOrder entry
spelled_order true entry text spelled = spelled.ordered
spelled_order false entry text spelled = spelled.ordered

counts_free : {old : Bool} {tree : Tree} {k next : ℕ} {c said : Contents} {work last : List Write} → CountsTo old tree k c work next said last → IsFreeOf c.owned → IsFreeOf said.owned
counts_free (no_more is) free = free
counts_free {old = old} (one_more {k = k} {before = before} {after = after} is a more) free =
    counts_free more (record_free old k a.entry before after (spelled_order old a.entry a.text a.spelled) a.applies free)

counts_outside : {old : Bool} {tree : Tree} {k next : ℕ} {c said : Contents} {work last : List Write} → CountsTo old tree k c work next said last → IsFreeOf c.owned → AreOutside work → AreOutside last
counts_outside (no_more is) free outside = outside
counts_outside {old = old} (one_more {k = k} {before = before} {after = after} is a more) free outside =
    let order = spelled_order old a.entry a.text a.spelled in
    counts_outside more (record_free old k a.entry before after order a.applies free) (record_outside a.entry before order free)

-- ---- a slot

owned_by_option : (found : Option Entry) (o : Owned) (more : List OwnedPath) → is_own o.path ≡ false → IsFreeOf more
    → list_any is_own (paths_of (cons_option (option_map (λ (entry : Entry). owned_by o.path entry.pkg) found) more)) ≡ false
owned_by_option None o more here free = free
owned_by_option (Some entry) o more here free = both_false (is_own o.path) (list_any is_own (paths_of more)) here free

owned_free : (entries : List Entry) (owned : List Owned) → list_any is_own (owned_paths owned) ≡ false → IsFreeOf (filter_map (owned_with entries) owned)
owned_free entries [] free = refl
owned_free entries (o ∷ owned) free =
    owned_by_option (slice_get entries o.owner) o (filter_map (owned_with entries) owned) (left_false (is_own o.path) (list_any is_own (owned_paths owned)) free)
    (owned_free entries owned (right_false (is_own o.path) (list_any is_own (owned_paths owned)) free))

spelled_slot_free : (old : Bool) (slot : Snapshot) (text : List ℕ) → SpellsSlot old slot text → list_any is_own (owned_paths slot.owned) ≡ false
spelled_slot_free true slot text spelled = spelled.ordered.paths_free.free
spelled_slot_free false slot text spelled = spelled.ordered.paths_free.free

first_free : {tree : Tree} {place : Bool} (found : Option FoundSlot) → SlotIs tree place found → IsFreeOf (first_contents found).owned
first_free None is = refl
first_free (Some found) (is_found {old = old} {slot = slot} has) = owned_free slot.entries slot.owned (spelled_slot_free old slot has.text has.spelled)

counting_by : (b : Bool) (zero one : FoundSlot) → IsFreeOf (first_contents (Some zero)).owned → IsFreeOf (first_contents (Some one)).owned → IsFreeOf (first_contents (if b then Some one else Some zero)).owned
counting_by true zero one first second = second
counting_by false zero one first second = first

counting_free : (zero one : Option FoundSlot) → IsFreeOf (first_contents zero).owned → IsFreeOf (first_contents one).owned → IsFreeOf (first_contents (counting zero one)).owned
counting_free None one first second = second
counting_free (Some zero) None first second = first
counting_free (Some zero) (Some one) first second = counting_by (second_counts zero one) zero one first second

said_free : (old : Bool) (said c : Contents) → c ≡ said_by old said → IsFreeOf said.owned → IsFreeOf c.owned
said_free true said c is free = subst (λ (x : Contents). IsFreeOf x.owned) (sym is) free
said_free false said c is free = subst (λ (x : Contents). IsFreeOf x.owned) (sym is) free

module _ {head : Head} {c : Contents} {work : List Write} {tree : Tree} (r : IsReadAt head c work tree) where
  starts_free : IsFreeOf (first_contents (counting r.zero r.one)).owned
  starts_free = counting_free r.zero r.one (first_free r.zero r.zero_is) (first_free r.one r.one_is)

  -- no path that is owned is the switch's own
  pub read_free : IsFreeOf c.owned
  read_free = said_free head.old r.said c r.says (counts_free r.counted starts_free)

  -- nor is any that the last record puts or takes away
  pub work_outside : AreOutside work
  work_outside = counts_outside r.counted starts_free refl

-- What is read is within the limits of a switch.
use Rattle.std.proofs.Common.{◌≡◌, ℕ, List, Bool, true, false, refl, sym, subst, Option, Some, None, if◌then◌else◌}
use Rattle.crash_disk.specs.Disks.{Tree}
use Rattle.crash_disk.specs.declared.batch.Write.{Write}
use Rattle.journal_text.specs.declared.record.Entry.{Entry}
use Rattle.journal_text.specs.declared.record.KeptFiles.{KeptFiles}
use Rattle.journal_text.specs.declared.record.Placed.{Placed}
use Rattle.journal_text.specs.declared.record.Rec.{Rec}
use Rattle.journal_text.specs.declared.record.Rec.TheVariants.{Install, PutBack, Remove, Begin, End}
use Rattle.opam_names.specs.declared.packages.Pkg.{Pkg}
use Rattle.switch_journal.specs.Applying.{begun, ended, installed, put_back, removed}
use Rattle.switch_journal.specs.Contents.{Contents}
use Rattle.switch_journal.specs.Journal.{CountsTo, Head, IsReadAt, no_more, one_more, said_by}
use Rattle.switch_journal.specs.Reading.{FoundSlot, SlotIs, after_record, counting, first_contents, is_found, is_small, second_counts}
use Rattle.switch_journal.specs.Places.{record_path}
use Rattle.switch_journal.specs.declared.request.Open.{Open}
use Rattle.switch_journal.proofs.Applied.{IsSaid, begun_is, ended_is, installed_is, old_installed_is, old_removed_is, put_back_is, removed_is}

abbrev IsSmall : Contents → Type 0
IsSmall c = is_small c ≡ true

small_by : (x after : Contents) → IsSaid x after → IsSmall after
small_by x after is = subst IsSmall is.same is.small

no_contents : (after : Contents) → None ≡ Some after → ⊥
no_contents after is = absurd (cc)

installed_small : (from : List ℕ) (pkg : Pkg) (opam : List ℕ) (files : List Placed) (c : Contents) (request : Option Open) (after : Contents) → installed from pkg opam files c request ≡ Some after → IsSmall after
installed_small from pkg opam files c None after is = absurd (no_contents after is)
installed_small from pkg opam files c (Some request) after is = small_by _ after (installed_is from pkg opam files c request after is)

put_back_small : (from : List ℕ) (pkg : Pkg) (opam : List ℕ) (files : List Placed) (c : Contents) (request : Option Open) (after : Contents) → put_back from pkg opam files c request ≡ Some after → IsSmall after
put_back_small from pkg opam files c None after is = absurd (no_contents after is)
put_back_small from pkg opam files c (Some request) after is = small_by _ after (put_back_is from pkg opam files c request after is)

removed_small : (number : ℕ) (pkg : Pkg) (kept : Option KeptFiles) (c : Contents) (request : Option Open) (after : Contents) → removed number pkg kept c request ≡ Some after → IsSmall after
removed_small number pkg kept c None after is = absurd (no_contents after is)
removed_small number pkg kept c (Some request) after is = small_by _ after (removed_is number pkg kept c request after is)

begun_small : (from : List ℕ) (roots : List (List ℕ)) (target : List Entry) (removals : List Pkg) (c : Contents) (request : Option Open) (after : Contents) → begun from roots target removals c request ≡ Some after → IsSmall after
begun_small from roots target removals c None after is = small_by _ after (begun_is from roots target removals c after is)
begun_small from roots target removals c (Some request) after is = absurd (no_contents after is)

ended_small : (c : Contents) (request : Option Open) (after : Contents) → ended c request ≡ Some after → IsSmall after
ended_small c None after is = absurd (no_contents after is)
ended_small c (Some request) after is = small_by _ after (ended_is c request after is)

record_small : (old : Bool) (number : ℕ) (entry : Rec) (c after : Contents) → after_record old number entry c ≡ Some after → IsSmall after
record_small true number (Install pkg opam files) c after is = small_by _ after (old_installed_is (record_path number) pkg opam files c after is)
record_small true number (Remove pkg kept) c after is = small_by _ after (old_removed_is pkg c after is)
record_small true number (PutBack pkg opam files) c after is = absurd (no_contents after is)
record_small true number (Begin roots target removals) c after is = absurd (no_contents after is)
record_small true number End c after is = absurd (no_contents after is)
record_small false number (Install pkg opam files) c after is = installed_small (record_path number) pkg opam files c c.request after is
record_small false number (PutBack pkg opam files) c after is = put_back_small (record_path number) pkg opam files c c.request after is
record_small false number (Remove pkg kept) c after is = removed_small number pkg kept c c.request after is
record_small false number (Begin roots target removals) c after is = begun_small (record_path number) roots target removals c c.request after is
record_small false number End c after is = ended_small c c.request after is

counts_small : {old : Bool} {tree : Tree} {k next : ℕ} {c said : Contents} {work last : List Write} → CountsTo old tree k c work next said last → IsSmall c → IsSmall said
counts_small (no_more is) small = small
counts_small {old = old} (one_more {k = k} {before = before} {after = after} is a more) small = counts_small more (record_small old k a.entry before after a.applies)

first_small : {tree : Tree} {place : Bool} (found : Option FoundSlot) → SlotIs tree place found → IsSmall (first_contents found)
first_small None is = refl
first_small (Some found) (is_found has) = has.few

counting_by : (b : Bool) (zero one : FoundSlot) → IsSmall (first_contents (Some zero)) → IsSmall (first_contents (Some one)) → IsSmall (first_contents (if b then Some one else Some zero))
counting_by true zero one first second = second
counting_by false zero one first second = first

counting_small : (zero one : Option FoundSlot) → IsSmall (first_contents zero) → IsSmall (first_contents one) → IsSmall (first_contents (counting zero one))
counting_small None one first second = second
counting_small (Some zero) None first second = first
counting_small (Some zero) (Some one) first second = counting_by (second_counts zero one) zero one first second

said_small : (old : Bool) (said c : Contents) → c ≡ said_by old said → IsSmall said → IsSmall c
said_small true said c is small = subst IsSmall (sym is) small
said_small false said c is small = subst IsSmall (sym is) small

pub read_small : {head : Head} {c : Contents} {work : List Write} {tree : Tree} → (r : IsReadAt head c work tree) → IsSmall c
read_small {head = head} {c = c} r = said_small head.old r.said c r.says (counts_small r.counted (counting_small r.zero r.one (first_small r.zero r.zero_is) (first_small r.one r.one_is)))

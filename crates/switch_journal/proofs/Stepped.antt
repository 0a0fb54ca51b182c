-- One record more: what is said with it, and what a stop leaves of its commit.
use Rattle.std.proofs.Common.{◌≡◌, ◌∙◌, inl, inr, ℕ, ◌+◌, ◌<◌, ◌^◌, List, [], ◌∷◌, ◌++◌, Bool, true, false, refl, sym, subst, ap, arith, slice_index_or, Option, Some, None}
use Rattle.std.specs.Prelude.{◌||◌, nat_le}
use Rattle.std.proofs.lemmas.Bool.{cases_Bool}
use Rattle.std.specs.List.{list_all}
use Rattle.crash_disk.specs.Disks.{State, Tree}
use Rattle.crash_disk.specs.Writes.{with_writes}
use Rattle.crash_disk.specs.declared.batch.Write.{Write}
use Rattle.journal_text.specs.Records.{IsOldSpelledBy, IsSpelledBy}
use Rattle.journal_text.specs.declared.record.Rec.{Rec}
use Rattle.journal_text.specs.declared.record.Rec.TheVariants.{Install, PutBack, Remove, Begin, End}
use Rattle.switch_journal.specs.Applying.{applied, installed, put_back, removed, ended}
use Rattle.switch_journal.specs.Commits.{Begins, is_outside, ready_with}
use Rattle.switch_journal.specs.Contents.{Contents}
use Rattle.switch_journal.specs.Journal.{AgreeOutside, CountsTo, Head, IsReadAt, StandsFor, no_more, one_more, said_by, work_of}
use Rattle.switch_journal.specs.Places.{record_path}
use Rattle.switch_journal.specs.Reading.{FoundSlot, IsOld, SpellsRecord, after_record, counting, first_contents, first_number}
use Rattle.switch_journal.specs.Steps.{CanCommit, IsAround, Step, files_after, is_begin, one_more_number, with_one_more}
use Rattle.switch_journal.specs.Texts.{HoldsFrom, IsBeforeOrAfter, IsReadAs, Journal, RestsAs, next_number, with_record}
use Rattle.switch_journal.specs.declared.commits.Ready.{Ready}
use Rattle.switch_journal.proofs.Bridge.{applies_at, comes_there, journal_of, rests_here, slot_there, texts_held, texts_number, texts_of}
use Rattle.switch_journal.proofs.Applied.{IsSaid, old_installed_is, old_removed_is}
use Rattle.switch_journal.proofs.Outside.{read_free, record_outside}

-- ---- one counted record more

pub counts_more : {old : Bool} {tree : Tree} (image : Tree) (entry : Rec) (text : List ℕ) (after : Contents) {k next : ℕ} {c said : Contents} {work last : List Write} → (r : CountsTo old tree k c work next said last)
    → HoldsFrom k (texts_of r ++ text ∷ []) image → next < 2 ^ 63 → SpellsRecord old entry text → after_record old next entry said ≡ Some after → CountsTo old image k c work (next + 1) after (work_of entry said)
counts_more image entry text after (no_more is) holds small spelled applies =
    one_more holds.0 (record { text = text; entry = entry; small = small; there = holds.1; spelled = spelled; applies = applies }) (no_more holds.2)
counts_more image entry text after (one_more is a more) holds small spelled applies = one_more holds.0 (applies_at image a holds.1) (counts_more image entry text after more holds.2 small spelled applies)

-- ---- the format stays

-- no bytes spell records of both formats
old_of_both : (text : List ℕ) (bytes : List ℕ) → slice_index_or bytes 7 0 ≡ 49 → Some bytes ≡ Some text → slice_index_or text 7 0 ≡ 49
old_of_both text bytes at is = let e : bytes ≡ text = cc in ap (λ (b : List ℕ). slice_index_or b 7 0) (sym e) ∙ at

old_seventh : (a : Rec) (text : List ℕ) → IsOldSpelledBy a text → slice_index_or text 7 0 ≡ 49
old_seventh (Install pkg opam files) text one = old_of_both text _ refl one.bytes_are
old_seventh (Remove pkg None) text one = old_of_both text _ refl one.bytes_are
old_seventh (Remove pkg (Some kept)) text one = absurd (let e : None ≡ Some text = one.bytes_are in cc)
old_seventh (PutBack pkg opam files) text one = absurd (let e : None ≡ Some text = one.bytes_are in cc)
old_seventh (Begin roots target removals) text one = absurd (let e : None ≡ Some text = one.bytes_are in cc)
old_seventh End text one = absurd (let e : None ≡ Some text = one.bytes_are in cc)

new_seventh : (a : Rec) (text : List ℕ) → IsSpelledBy a text → slice_index_or text 7 0 ≡ 50
new_seventh a text one = ap (λ (b : List ℕ). slice_index_or b 7 0) one.bytes_are

pub not_both_formats : (a b : Rec) (text : List ℕ) → IsOldSpelledBy a text → IsSpelledBy b text → ⊥
not_both_formats a b text one other = let e : 49 ≡ 50 = sym (old_seventh a text one) ∙ new_seventh b text other in absurd (omega (arith, e))

some_text : {a b : List ℕ} → Some a ≡ Some b → a ≡ b
some_text is = cc

pub more_format : (found : Option FoundSlot) (texts : List (List ℕ)) (text : List ℕ) (entry : Rec) (tree image : Tree) → HoldsFrom (first_number found) texts tree → HoldsFrom (first_number found) (texts ++ text ∷ []) image
    → IsSpelledBy entry text → IsOld tree found false → IsOld image found false
more_format (Some found) texts text entry tree image holds there spelled is = is
more_format None [] text entry tree image holds there spelled is = λ begins.
    not_both_formats begins.entry entry text (subst (IsOldSpelledBy begins.entry) (some_text (sym begins.there ∙ there.1)) begins.spelled) spelled
more_format None (one ∷ texts) text entry tree image holds there spelled is = λ begins.
    is (record { text = begins.text; entry = begins.entry; opened = holds.0; there = holds.1 ∙ sym there.1 ∙ begins.there; spelled = begins.spelled })

-- ---- a record that comes after old ones begins a request

no_contents : (after : Contents) → None ≡ Some after → ⊥
no_contents after is = absurd (cc)

same_request : (x after : Contents) → IsSaid x after → after.request ≡ x.request
same_request x after is = ap (λ (c : Contents). c.request) (sym is.same)

old_closed : (number : ℕ) (entry : Rec) (c after : Contents) → after_record true number entry c ≡ Some after → after.request ≡ c.request
old_closed number (Install pkg opam files) c after is = same_request _ after (old_installed_is (record_path number) pkg opam files c after is)
old_closed number (Remove pkg kept) c after is = same_request _ after (old_removed_is pkg c after is)
old_closed number (PutBack pkg opam files) c after is = absurd (no_contents after is)
old_closed number (Begin roots target removals) c after is = absurd (no_contents after is)
old_closed number End c after is = absurd (no_contents after is)

counts_closed : {tree : Tree} {k next : ℕ} {c said : Contents} {work last : List Write} → CountsTo true tree k c work next said last → c.request ≡ None → said.request ≡ None
counts_closed (no_more is) closed = closed
counts_closed (one_more {k = k} {before = before} {after = after} is a more) closed = counts_closed more (old_closed k a.entry before after a.applies ∙ closed)

first_closed : (found : Option FoundSlot) → (first_contents found).request ≡ None
first_closed None = refl
first_closed (Some found) = refl

begins_alone : (number : ℕ) (from : List ℕ) (entry : Rec) (c after : Contents) → applied number from entry c ≡ Some after → c.request ≡ None → is_begin entry ≡ true
begins_alone number from (Install pkg opam files) c after is closed = absurd (no_contents after (sym (ap (installed from pkg opam files c) closed) ∙ is))
begins_alone number from (PutBack pkg opam files) c after is closed = absurd (no_contents after (sym (ap (put_back from pkg opam files c) closed) ∙ is))
begins_alone number from (Remove pkg kept) c after is closed = absurd (no_contents after (sym (ap (removed number pkg kept c) closed) ∙ is))
begins_alone number from (Begin roots target removals) c after is closed = refl
begins_alone number from End c after is closed = absurd (no_contents after (sym (ap (ended c) closed) ∙ is))

not_due : (old : Bool) (b : Bool) → (old || b) ≡ false → old ≡ false
not_due true b is = absurd (cc)
not_due false b is = refl

old_is_closed : (old : Bool) {tree : Tree} {k next : ℕ} {c said : Contents} {work last : List Write} → old ≡ true → CountsTo old tree k c work next said last → c.request ≡ None → said.request ≡ None
old_is_closed true is r closed = counts_closed r closed
old_is_closed false is r closed = absurd (cc)

said_closed : (old : Bool) (said c : Contents) → c ≡ said_by old said → said.request ≡ None → c.request ≡ None
said_closed true said c is closed = ap (λ (x : Contents). x.request) is ∙ closed
said_closed false said c is closed = ap (λ (x : Contents). x.request) is ∙ closed

said_new : (old : Bool) (said c : Contents) → old ≡ false → c ≡ said_by old said → c ≡ said
said_new true said c new is = absurd (cc)
said_new false said c new is = is

module _ {head : Head} {step : Step} {ready : Ready} {told : Option State} (can : CanCommit head step ready told) where
  abbrev r : IsReadAt head step.before can.stands.work can.stands.tree
  r = can.stands.reads

  abbrev pub journal : Journal
  journal = journal_of can.stands.reads step.files

  -- the journal is not old
  pub is_new : head.old ≡ false
  is_new = elim (cases_Bool head.old) [
    | inl old ↦
        let closed = said_closed head.old r.said step.before r.says (old_is_closed head.old old r.counted (first_closed (counting r.zero r.one))) in
        not_due head.old (nat_le _ _) (can.begins (begins_alone head.next (record_path head.next) step.entry step.before step.after can.applies closed))
    | inr new ↦ new
  ]

  number_is : next_number journal ≡ head.next
  number_is = texts_number r.counted

  pub writes_are : ready.writes ≡ work_of step.entry step.before
  writes_are = ap (λ (r : Ready). r.writes) can.made.parts

  outside : list_all is_outside (work_of step.entry step.before) ≡ true
  outside = record_outside step.entry step.before can.made.spelled.ordered (read_free r)

  pub begins_so : Begins journal can.made.text ready told
  begins_so = record {
    few = subst (λ (n : ℕ). n < 2 ^ 63) (sym number_is) can.few;
    apart = subst (λ (ws : List Write). list_all is_outside ws ≡ true) (sym writes_are) outside;
    is = can.made.parts ∙ (λ i. ready_with (sym number_is i) can.made.text (sym writes_are i));
    rest = rests_here can.stands;
  }

  next_is : one_more_number head.next ≡ head.next + 1
  next_is = let few = can.few in omega (arith, few)

  -- files with the record are read so
  abbrev with_it : Journal
  with_it = with_record journal can.made.text ready.writes

  applies_said : after_record head.old head.next step.entry r.said ≡ Some step.after
  applies_said =
      subst (λ (old : Bool). after_record old head.next step.entry r.said ≡ Some step.after) (sym is_new)
      (subst (λ (c : Contents). applied head.next (record_path head.next) step.entry c ≡ Some step.after) (said_new head.old r.said step.before is_new r.says) can.applies)

  pub read_after : (image : Tree) → IsReadAs with_it image → IsReadAt (with_one_more head) step.after ready.writes image
  read_after image is = record {
    zero = r.zero;
    one = r.one;
    zero_is = slot_there (is.same_slots false) r.zero_is;
    one_is = slot_there (is.same_slots true) r.one_is;
    numbers = λ i. with_one_more (r.numbers i);
    format = subst (IsOld image (counting r.zero r.one)) (sym is_new)
        (more_format (counting r.zero r.one) (texts_of r.counted) can.made.text step.entry can.stands.tree image (texts_held r.counted) is.counted can.made.spelled (subst (IsOld can.stands.tree (counting r.zero r.one)) is_new r.format));
    said = step.after;
    counted = subst (λ (n : ℕ). CountsTo head.old image (first_number (counting r.zero r.one)) (first_contents (counting r.zero r.one)) [] n step.after ready.writes) (sym next_is)
        (subst (λ (ws : List Write). CountsTo head.old image (first_number (counting r.zero r.one)) (first_contents (counting r.zero r.one)) [] (head.next + 1) step.after ws) work_is
        (counts_more image step.entry can.made.text step.after r.counted is.counted can.few (subst (λ (old : Bool). SpellsRecord old step.entry can.made.text) (sym is_new) can.made.spelled) applies_said));
    says = subst (λ (old : Bool). step.after ≡ said_by old step.after) (sym is_new) refl;
  }
    where
      work_is : work_of step.entry r.said ≡ ready.writes
      work_is = ap (work_of step.entry) (sym (said_new head.old r.said step.before is_new r.says)) ∙ sym writes_are

  files_are : with_it.files ≡ files_after step
  files_are = ap (λ (ws : List Write). with_writes ws step.files) writes_are

  -- what a stop leaves
  pub around : (image : Tree) → IsBeforeOrAfter journal can.made.text ready.writes image → IsAround step image
  around image (inl before) = inl (comes_there r step.files image before)
  around image (inr after) = inr (record {
    head = with_one_more head;
    work = ready.writes;
    reads = read_after image after;
    same_files = subst (λ (files : Tree). AgreeOutside files (with_writes ready.writes image)) files_are after.same_files;
  })

  -- what the commit leaves
  pub stands_after : (now : Option State) → RestsAs with_it now → StandsFor (with_one_more head) step.after (files_after step) now
  stands_after now rests = record {
    tree = rests.tree;
    tells = rests.tells;
    work = ready.writes;
    reads = read_after rests.tree rests.whole.reads;
    done = subst (λ (files : Tree). AgreeOutside files (with_writes ready.writes rests.tree)) files_are rests.whole.reads.same_files;
    same_files = subst (λ (files : Tree). AgreeOutside files rests.tree) files_are rests.whole.same_files;
  }

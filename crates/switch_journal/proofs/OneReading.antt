-- Files are read with one set of numbers, and what is read is what they say.
use Rattle.std.proofs.Common.{◌≡◌, ◌∙◌, ℕ, ◌+◌, List, [], Bool, true, false, refl, sym, subst, ap, Option}
use Rattle.crash_disk.specs.Disks.{Tree}
use Rattle.crash_disk.specs.declared.batch.Write.{Write}
use Rattle.journal_text.specs.Laws.{OneRecordForBytes, OneSlotForBytes}
use Rattle.switch_journal.specs.Contents.{Contents}
use Rattle.switch_journal.specs.Journal as journal
use Rattle.switch_journal.specs.Journal.{CountsTo, Head, IsReadAt, head_of, no_more, one_more, said_by, work_of}
use Rattle.switch_journal.specs.Laws.{IsReadSo}
use Rattle.switch_journal.specs.Reading as reading
use Rattle.switch_journal.specs.Reading.{Applies, BadAt, Counts, FoundSlot, IsOld, Outcome, Reads, Says, SlotIs, at_end, counting, first_contents, first_number, first_slot_bad, read, second_slot_bad}
use Rattle.switch_journal.proofs.Determined.{applies_once, not_both, one_format, same_record, slot_once, some_same}

-- ---- one reading

-- record k is one record
entry_once : OneRecordForBytes → {old : Bool} {tree : Tree} {k : ℕ} {c a b : Contents} → (one : Applies old tree k c a) → (other : Applies old tree k c b) → one.entry ≡ other.entry
entry_once law {old} one other =
    let texts : one.text ≡ other.text = some_same (sym one.there ∙ other.there) in
    same_record law old one.entry other.entry other.text (subst (reading.SpellsRecord old one.entry) texts one.spelled) other.spelled

-- how far records count, what they say and the work of the last
pub record SameCount (next after : ℕ) (said also : Contents) (work last : List Write) : Type 0 where
  next_is : next ≡ after
  said_is : said ≡ also
  work_is : work ≡ last

counts_same : OneRecordForBytes → (old : Bool) (tree : Tree) (k : ℕ) (c : Contents) (w : List Write) (next after : ℕ) (said also : Contents) (work last : List Write) → CountsTo old tree k c w next said work → CountsTo old tree k c w after also last
    → SameCount next after said also work last
counts_same law old tree k c w next after said also work last (no_more is) (no_more other) = record { next_is = refl; said_is = refl; work_is = refl }
counts_same law old tree k c w next after said also work last (no_more is) (one_more opens applies more) = absurd (not_both k tree is opens)
counts_same law old tree k c w next after said also work last (one_more opens applies more) (no_more is) = absurd (not_both k tree is opens)
counts_same law old tree k c w next after said also work last (one_more {after = mid} opens applies more) (one_more {after = other} opened applied rest) =
    let mids : mid ≡ other = applies_once law applies applied in
    let works : work_of applies.entry c ≡ work_of applied.entry c = ap (λ entry. work_of entry c) (entry_once law applies applied) in
    counts_same law old tree (k + 1) other (work_of applied.entry c) next after said also work last
    (subst (λ (ws : List Write). CountsTo old tree (k + 1) other ws next said work) works (subst (λ (x : Contents). CountsTo old tree (k + 1) x (work_of applies.entry c) next said work) mids more)) rest

-- the same numbers, contents and work
pub one_reading : OneRecordForBytes → OneSlotForBytes → (tree : Tree) (head other : Head) (c said : Contents) (work last : List Write) → IsReadAt head c work tree → IsReadAt other said last tree → (head ≡ other) × (c ≡ said) × (work ≡ last)
one_reading entries slots tree head other c said work last a b =
    let zeros : a.zero ≡ b.zero = slot_once slots tree false a.zero b.zero a.zero_is b.zero_is in
    let ones : a.one ≡ b.one = slot_once slots tree true a.one b.one a.one_is b.one_is in
    let found : counting a.zero a.one ≡ counting b.zero b.one = λ i. counting (zeros i) (ones i) in
    let olds : head.old ≡ other.old = one_format tree (counting b.zero b.one) head.old other.old (subst (λ (slot : Option FoundSlot). IsOld tree slot head.old) found a.format) b.format in
    let here : CountsTo other.old tree (first_number (counting b.zero b.one)) (first_contents (counting b.zero b.one)) [] head.next a.said work =
    subst (λ (old : Bool). CountsTo old tree (first_number (counting b.zero b.one)) (first_contents (counting b.zero b.one)) [] head.next a.said work) olds
    (subst (λ (slot : Option FoundSlot). CountsTo head.old tree (first_number slot) (first_contents slot) [] head.next a.said work) found a.counted) in
    let same = counts_same entries other.old tree (first_number (counting b.zero b.one)) (first_contents (counting b.zero b.one)) [] head.next other.next a.said b.said work last here b.counted in (
      a.numbers ∙ (λ i. head_of (zeros i) (ones i) (olds i) (same.next_is i)) ∙ sym b.numbers,
      a.says ∙ (λ i. said_by (olds i) (same.said_is i)) ∙ sym b.says,
      same.work_is,
    )

-- ---- what is said is read

-- a count, with its numbers
record Counted (old : Bool) (tree : Tree) (k : ℕ) (c : Contents) (work : List Write) (said : Contents) : Type 0 where
  next : ℕ
  last : List Write
  counts : CountsTo old tree k c work next said last

counted : {old : Bool} {tree : Tree} {k : ℕ} {c said : Contents} → (work : List Write) → Counts old tree k c (Says said) → Counted old tree k c work said
counted {k = k} work (reading.no_more is) = record { next = k; last = work; counts = journal.no_more is }
counted {c = c} work (reading.one_more is applies more) =
    let rest = counted (work_of applies.entry c) more in
    record { next = rest.next; last = rest.last; counts = journal.one_more is applies rest.counts }

says_same : (a b : Contents) → Says a ≡ Says b → a ≡ b
says_same a b is = cc

not_said : (path : List ℕ) (c : Contents) → BadAt path ≡ Says c → ⊥
not_said path c is = absurd (cc)

ended_as : (old : Bool) (said c : Contents) → at_end old (Says said) ≡ Says c → c ≡ said_by old said
ended_as true said c is = sym (says_same (reading.with_all_roots said) c is)
ended_as false said c is = sym (says_same said c is)

bad_as : (old : Bool) (path : List ℕ) (c : Contents) → at_end old (BadAt path) ≡ Says c → ⊥
bad_as true path c is = not_said path c is
bad_as false path c is = not_said path c is

read_by : (tree : Tree) (first second : Option FoundSlot) (old : Bool) (outcome : Outcome) (c : Contents) → SlotIs tree false first → SlotIs tree true second → IsOld tree (counting first second) old
    → Counts old tree (first_number (counting first second)) (first_contents (counting first second)) outcome → at_end old outcome ≡ Says c → IsReadSo tree c
read_by tree first second old (Says said) c has seconds format counts is =
    let count = counted [] counts in
    record {
      head = head_of first second old count.next;
      work = count.last;
      reads = record {
        zero = first;
        one = second;
        zero_is = has;
        one_is = seconds;
        numbers = refl;
        format = format;
        said = said;
        counted = count.counts;
        says = ended_as old said c is;
      };
    }
read_by tree first second old (BadAt path) c has seconds format counts is = absurd (bad_as old path c is)

pub read_so : (tree : Tree) (outcome : Outcome) (c : Contents) → Reads tree outcome → outcome ≡ Says c → IsReadSo tree c
read_so tree outcome c (first_slot_bad is) same = absurd (not_said _ c same)
read_so tree outcome c (second_slot_bad has is) same = absurd (not_said _ c same)
read_so tree outcome c (read {first = first} {second = second} {old = old} {outcome = o} has seconds format counts) same = read_by tree first second old o c has seconds format counts same

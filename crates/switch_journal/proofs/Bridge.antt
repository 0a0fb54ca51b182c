-- From the files of a journal as texts to what they say: files with the same texts are read with the same numbers, say the same and leave
-- the same work.
use Rattle.std.proofs.Common.{◌≡◌, ◌∙◌, ℕ, ◌+◌, List, [], ◌∷◌, length, Bool, true, false, refl, sym, subst, ap, arith, Option, Some, None}
use Rattle.std.specs.FinMap.{get}
use Rattle.crash_disk.specs.Disks.{State, Tree}
use Rattle.crash_disk.specs.Writes.{with_writes}
use Rattle.crash_disk.specs.declared.batch.Write.{Write}
use Rattle.switch_journal.specs.Contents.{Contents}
use Rattle.switch_journal.specs.Journal.{AgreeOutside, ComesTo, CountsTo, Head, IsReadAt, StandsFor, no_more, one_more, said_by}
use Rattle.switch_journal.specs.Places.{record_path, text_of}
use Rattle.switch_journal.specs.Reading as reading
use Rattle.switch_journal.specs.Reading.{Applies, BeginsOld, Counts, FoundSlot, HasSlot, IsOld, Outcome, Reads, Says, SlotIs, counting, first_number, is_found, is_shut, read}
use Rattle.switch_journal.specs.Texts.{HoldsFrom, IsReadAs, Journal, RestsAs, slot_at}

-- ---- counted records

-- their texts
abbrev pub texts_of : {old : Bool} {tree : Tree} {k next : ℕ} {c said : Contents} {work last : List Write} → CountsTo old tree k c work next said last → List (List ℕ)
texts_of (no_more is) = []
texts_of (one_more is applies more) = applies.text ∷ texts_of more

pub texts_held : {old : Bool} {tree : Tree} {k next : ℕ} {c said : Contents} {work last : List Write} → (r : CountsTo old tree k c work next said last) → HoldsFrom k (texts_of r) tree
texts_held (no_more is) = is
texts_held (one_more is applies more) = (is, applies.there, texts_held more)

pub texts_number : {old : Bool} {tree : Tree} {k next : ℕ} {c said : Contents} {work last : List Write} → (r : CountsTo old tree k c work next said last) → k + length (texts_of r) ≡ next
texts_number {k = k} (no_more is) = let e : k + 0 ≡ k = omega arith in e
texts_number {k = k} {next = next} (one_more is applies more) = let later = texts_number more in omega (arith, later)

-- what they say is what `Counts` says
pub counts_said : {old : Bool} {tree : Tree} {k next : ℕ} {c said : Contents} {work last : List Write} → CountsTo old tree k c work next said last → Counts old tree k c (Says said)
counts_said (no_more is) = reading.no_more is
counts_said (one_more is applies more) = reading.one_more is applies (counts_said more)

abbrev pub applies_at : {old : Bool} {tree : Tree} (image : Tree) {k : ℕ} {before after : Contents} → (a : Applies old tree k before after) → text_of (get image (record_path k)) ≡ Some a.text → Applies old image k before after
applies_at image a there = record { text = a.text; entry = a.entry; small = a.small; there = there; spelled = a.spelled; applies = a.applies }

-- the same texts elsewhere
pub counts_there : {old : Bool} {tree : Tree} (image : Tree) {k next : ℕ} {c said : Contents} {work last : List Write} → (r : CountsTo old tree k c work next said last) → HoldsFrom k (texts_of r) image → CountsTo old image k c work next said last
counts_there image (no_more is) holds = no_more holds
counts_there image (one_more is applies more) holds = one_more holds.0 (applies_at image applies holds.1) (counts_there image more holds.2)

-- ---- slots

pub slot_there : {tree image : Tree} {place : Bool} {found : Option FoundSlot} → slot_at place image ≡ slot_at place tree → SlotIs tree place found → SlotIs image place found
slot_there same (is_shut is) = is_shut (same ∙ is)
slot_there same (is_found has) = is_found (record { text = has.text; there = same ∙ has.there; spelled = has.spelled; small = has.small; few = has.few })

-- ---- the format

-- the first record is open and has a text, or is not open
same_begin : (texts : List (List ℕ)) (tree image : Tree) → HoldsFrom 1 texts tree → HoldsFrom 1 texts image → BeginsOld tree → BeginsOld image
same_begin [] tree image holds there begins = absurd (let e : false ≡ true = sym holds ∙ begins.opened in cc)
same_begin (text ∷ texts) tree image holds there begins = record { text = begins.text; entry = begins.entry; opened = there.0; there = there.1 ∙ sym holds.1 ∙ begins.there; spelled = begins.spelled }

pub same_format : (found : Option FoundSlot) (old : Bool) (texts : List (List ℕ)) (tree image : Tree) → HoldsFrom (first_number found) texts tree → HoldsFrom (first_number found) texts image → IsOld tree found old → IsOld image found old
same_format (Some found) old texts tree image holds there is = is
same_format None true texts tree image holds there is = same_begin texts tree image holds there is
same_format None false texts tree image holds there is = λ begins. is (same_begin texts image tree there holds begins)

-- ---- the whole

says_at : (old : Bool) (said c : Contents) → c ≡ said_by old said → reading.at_end old (Says said) ≡ Says c
says_at true said c is = ap Says (sym is)
says_at false said c is = ap Says (sym is)

module _ {head : Head} {c : Contents} {work : List Write} {tree : Tree} (r : IsReadAt head c work tree) where
  -- the files say so
  pub reads_of : Reads tree (Says c)
  reads_of = subst (Reads tree) (says_at head.old r.said c r.says) (read r.zero_is r.one_is r.format (counts_said r.counted))

  -- as texts
  abbrev pub journal_of : Tree → Journal
  journal_of files = record { slots = λ slot. slot_at slot tree; first = first_number (counting r.zero r.one); records = texts_of r.counted; last = work; files = files }

  pub read_as : (files : Tree) → AgreeOutside files (with_writes work tree) → IsReadAs (journal_of files) tree
  read_as files same = record { same_slots = λ slot. refl; counted = texts_held r.counted; same_files = same }

  -- files that are these texts are read so
  pub read_there : (files image : Tree) → IsReadAs (journal_of files) image → IsReadAt head c work image
  read_there files image is = record {
    zero = r.zero;
    one = r.one;
    zero_is = slot_there (is.same_slots false) r.zero_is;
    one_is = slot_there (is.same_slots true) r.one_is;
    numbers = r.numbers;
    format = same_format (counting r.zero r.one) head.old (texts_of r.counted) tree image (texts_held r.counted) is.counted r.format;
    said = r.said;
    counted = counts_there image r.counted is.counted;
    says = r.says;
  }

  pub comes_there : (files image : Tree) → IsReadAs (journal_of files) image → ComesTo c files image
  comes_there files image is = record { head = head; work = work; reads = read_there files image is; same_files = is.same_files }

  -- a disk that rests with these texts
  pub stands_there : (files : Tree) (told : Option State) → RestsAs (journal_of files) told → StandsFor head c files told
  stands_there files told rests = record {
    tree = rests.tree;
    tells = rests.tells;
    work = work;
    reads = read_there files rests.tree rests.whole.reads;
    done = rests.whole.reads.same_files;
    same_files = rests.whole.same_files;
  }

-- a journal that stands for a disk is at rest as texts
pub rests_here : {head : Head} {c : Contents} {files : Tree} {told : Option State} → (s : StandsFor head c files told) → RestsAs (journal_of s.reads files) told
rests_here {files = files} s = record {
  tree = s.tree;
  tells = s.tells;
  whole = record { reads = read_as s.reads files s.done; same_files = s.same_files };
}

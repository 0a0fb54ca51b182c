-- A slot is written: what its files say on the way and then.
use Rattle.std.proofs.Common.{◌≡◌, ◌∙◌, ◌⊎◌, inl, inr, ℕ, ◌+◌, ◌-◌, ◌<◌, ◌≤◌, ◌^◌, List, [], length, Bool, true, false, not, IsTrue, IsFalse, refl, sym, subst, ap, arith, Option, Some, None, if◌then◌else◌}
use Rattle.std.specs.Prelude.{◌==◌, ◌&&◌, ◌||◌, is_some, nat_le, nat_lt}
use Rattle.std.specs.Option.{option_map}
use Rattle.std.proofs.lemmas.Bool.{cases_lt}
use Rattle.std.proofs.lemmas.Bool.Decides.{nat_tests}
use Rattle.crash_disk.specs.Disks.{State, Tree}
use Rattle.crash_disk.specs.declared.batch.Write.{Write}
use Rattle.journal_text.specs.declared.slot.Snapshot.{Snapshot}
use Rattle.switch_journal.specs.Applying.{are_few, are_few_paths}
use Rattle.switch_journal.specs.Contents.{Contents}
use Rattle.switch_journal.specs.Journal.{ComesTo, CountsTo, Head, IsReadAt, StandsFor, head_of, no_more, found_place, said_by}
use Rattle.switch_journal.specs.Places.{is_open}
use Rattle.switch_journal.specs.Reading.{FoundSlot, HasSlot, IsOld, SlotIs, counting, first_contents, first_number, is_found, is_shut, is_small, second_counts}
use Rattle.switch_journal.specs.Slots.{IsSlotStage, SlotBegins, ready_slot, shut_slot, slot_written, slots_with}
use Rattle.switch_journal.specs.Snapshots.{CanWriteSlot, ComesToSame, IsSameSwitch, contents_by, free_place, place_for, slot_is_open, with_slot}
use Rattle.switch_journal.specs.Texts.{IsReadAs, Journal, RestsAs, next_number, slot_at}
use Rattle.switch_journal.specs.declared.slots.ReadySlot.{ReadySlot}
use Rattle.switch_journal.proofs.Bridge.{comes_there, counts_there, journal_of, rests_here, same_format, slot_there, texts_held, texts_number, texts_of}
use Rattle.switch_journal.proofs.Small.{read_small}

-- ---- the slots without one of them, and with one of them anew

-- where the one at this place is the zero, or the one
abbrev zero_now : Bool → Option FoundSlot → Option FoundSlot → Option FoundSlot
zero_now false now zero = now
zero_now true now zero = zero

abbrev one_now : Bool → Option FoundSlot → Option FoundSlot → Option FoundSlot
one_now false now one = one
one_now true now one = now

abbrev place_at : Option FoundSlot → Option FoundSlot → Bool
place_at zero one = free_place (option_map found_place (counting zero one))

chosen_stays : (b : Bool) (zero one : FoundSlot) → zero.place ≡ false → one.place ≡ true
    → counting (zero_now (free_place (option_map found_place (if b then Some one else Some zero))) None (Some zero)) (one_now (free_place (option_map found_place (if b then Some one else Some zero))) None (Some one)) ≡ (if b then Some one else Some zero)
chosen_stays true zero one first second = ap (λ (b : Bool). counting (zero_now (not b) None (Some zero)) (one_now (not b) None (Some one))) second
chosen_stays false zero one first second = ap (λ (b : Bool). counting (zero_now (not b) None (Some zero)) (one_now (not b) None (Some one))) first

-- the slot that counts is not the one that is shut
counting_shut : {tree : Tree} (zero one : Option FoundSlot) → SlotIs tree false zero → SlotIs tree true one
    → counting (zero_now (place_at zero one) None zero) (one_now (place_at zero one) None one) ≡ counting zero one
counting_shut None None zero_is one_is = refl
counting_shut None (Some one) zero_is (is_found has) = refl
counting_shut (Some zero) None (is_found has) one_is = refl
counting_shut (Some zero) (Some one) (is_found {old = a} {slot = s} has) (is_found {old = b} {slot = t} had) = chosen_stays (second_counts zero one) zero one refl refl

-- files with the slot at a place shut
zero_shut : {tree image : Tree} (place : Bool) (zero : Option FoundSlot) → SlotIs tree false zero → slot_at false image ≡ slots_with (λ slot. slot_at slot tree) place None false → SlotIs image false (zero_now place None zero)
zero_shut false zero is there = is_shut there
zero_shut true zero is there = slot_there there is

one_shut : {tree image : Tree} (place : Bool) (one : Option FoundSlot) → SlotIs tree true one → slot_at true image ≡ slots_with (λ slot. slot_at slot tree) place None true → SlotIs image true (one_now place None one)
one_shut false one is there = slot_there there is
one_shut true one is there = is_shut there

-- files with the slot at a place anew
zero_anew : {tree image : Tree} (place : Bool) (zero : Option FoundSlot) (now : FoundSlot) (text : List ℕ) → SlotIs tree false zero → slot_at false image ≡ slots_with (λ slot. slot_at slot tree) place (Some (Some text)) false
    → (place ≡ false → SlotIs image false (Some now)) → SlotIs image false (zero_now place (Some now) zero)
zero_anew false zero now text is there here = here refl
zero_anew true zero now text is there here = slot_there there is

one_anew : {tree image : Tree} (place : Bool) (one : Option FoundSlot) (now : FoundSlot) (text : List ℕ) → SlotIs tree true one → slot_at true image ≡ slots_with (λ slot. slot_at slot tree) place (Some (Some text)) true
    → (place ≡ true → SlotIs image true (Some now)) → SlotIs image true (one_now place (Some now) one)
one_anew false one now text is there here = slot_there there is
one_anew true one now text is there here = here refl

slot_here : (slots : Bool → Option (Option (List ℕ))) (place : Bool) (now : Option (Option (List ℕ))) → slots_with slots place now place ≡ now
slot_here slots false now = refl
slot_here slots true now = refl

-- ---- the new slot counts

-- of the slot that counted, the number is less, or it is the same and the slot is old
abbrev IsLess : FoundSlot → FoundSlot → Type 0
IsLess before now = (before.slot.number < now.slot.number) ⊎ ((before.slot.number ≡ now.slot.number) × (before.old ≡ true))

second_is : (before now : FoundSlot) → now.old ≡ false → IsLess before now → second_counts before now ≡ true
second_is before now new (inl less) = let e : nat_lt before.slot.number now.slot.number ≡ true = grind (arith, nat_tests) in rw e refl
second_is before now new (inr same) =
    let n : nat_lt before.slot.number now.slot.number ≡ false = let e = same.0 in grind (arith, nat_tests) in
    let q : (before.slot.number == now.slot.number) ≡ true = let e = same.0 in grind (arith, nat_tests) in
    rw (n, q, same.1, new) refl

first_is : (now before : FoundSlot) → now.old ≡ false → before.slot.number ≤ now.slot.number → second_counts now before ≡ false
first_is now before new le =
    let n : nat_lt now.slot.number before.slot.number ≡ false = grind (arith, nat_tests) in
    rw (n, new) (none (now.slot.number == before.slot.number))
  where
    none : (b : Bool) → (false || (b && false && not before.old)) ≡ false
    none true = refl
    none false = refl

less_le : (before now : FoundSlot) → IsLess before now → before.slot.number ≤ now.slot.number
less_le before now (inl less) = omega (arith, less)
less_le before now (inr same) = let e = same.0 in omega (arith, e)

chosen : (b : Bool) (one zero : FoundSlot) → b ≡ true → (if b then Some one else Some zero) ≡ Some one
chosen true one zero is = refl
chosen false one zero is = absurd (cc)

kept : (b : Bool) (one zero : FoundSlot) → b ≡ false → (if b then Some one else Some zero) ≡ Some zero
kept true one zero is = absurd (cc)
kept false one zero is = refl

both_anew : (b : Bool) (zero one now : FoundSlot) → zero.place ≡ false → one.place ≡ true → now.old ≡ false
    → ((before : FoundSlot) → (if b then Some one else Some zero) ≡ Some before → IsLess before now)
    → counting (zero_now (free_place (option_map found_place (if b then Some one else Some zero))) (Some now) (Some zero)) (one_now (free_place (option_map found_place (if b then Some one else Some zero))) (Some now) (Some one)) ≡ Some now
both_anew true zero one now first second new less =
    ap (λ (b : Bool). counting (zero_now (not b) (Some now) (Some zero)) (one_now (not b) (Some now) (Some one))) second
    ∙ (kept (second_counts now one) one now (first_is now one new (less_le one now (less one refl))))
both_anew false zero one now first second new less =
    ap (λ (b : Bool). counting (zero_now (not b) (Some now) (Some zero)) (one_now (not b) (Some now) (Some one))) first
    ∙ (chosen (second_counts zero now) now zero (second_is zero now new (less zero refl)))

counting_anew : {tree : Tree} (zero one : Option FoundSlot) (now : FoundSlot) → SlotIs tree false zero → SlotIs tree true one → now.old ≡ false → ((before : FoundSlot) → counting zero one ≡ Some before → IsLess before now)
    → counting (zero_now (place_at zero one) (Some now) zero) (one_now (place_at zero one) (Some now) one) ≡ Some now
counting_anew None None now zero_is one_is new less = refl
counting_anew None (Some one) now zero_is (is_found has) new less = kept (second_counts now one) one now (first_is now one new (less_le one now (less one refl)))
counting_anew (Some zero) None now (is_found has) one_is new less = chosen (second_counts zero now) now zero (second_is zero now new (less zero refl))
counting_anew (Some zero) (Some one) now (is_found has) (is_found had) new less = both_anew (second_counts zero one) zero one now refl refl new less

-- ---- the same switch

same_itself : (c : Contents) → IsSameSwitch c c
same_itself c = record { entries = refl; owned = refl; roots = λ name. refl; request = refl }

small_same : (c other : Contents) → IsSameSwitch c other → IsTrue (is_small c) → IsTrue (is_small other)
small_same c other same small =
    let e : is_small other ≡ is_small c = λ i. (are_few (same.entries i) && are_few_paths (same.owned i)) in e ∙ small

-- a reading by its parts
read_with : {image : Tree} (zero one : Option FoundSlot) → SlotIs image false zero → SlotIs image true one → (found : Option FoundSlot) → counting zero one ≡ found → (old : Bool) → IsOld image found old → {next : ℕ} {said : Contents} {work : List Write}
    → CountsTo old image (first_number found) (first_contents found) [] next said work → IsReadAt (head_of zero one old next) (said_by old said) work image
read_with {image} zero one zero_is one_is found is old format {next} {said} {work} counted = record {
  zero = zero;
  one = one;
  zero_is = zero_is;
  one_is = one_is;
  numbers = refl;
  format = subst (λ (f : Option FoundSlot). IsOld image f old) (sym is) format;
  said = said;
  counted = subst (λ (f : Option FoundSlot). CountsTo old image (first_number f) (first_contents f) [] next said work) (sym is) counted;
  says = refl;
}

module _ {head : Head} {c : Contents} {snapshot : Snapshot} {files : Tree} {ready : ReadySlot} {told : Option State} (can : CanWriteSlot head c snapshot files ready told) where
  abbrev r : IsReadAt head c can.stands.work can.stands.tree
  r = can.stands.reads

  abbrev tree : Tree
  tree = can.stands.tree

  abbrev pub journal : Journal
  journal = journal_of can.stands.reads files

  abbrev place : Bool
  place = place_for head

  number_is : next_number journal ≡ head.next
  number_is = texts_number r.counted

  first_is_head : head.first ≡ first_number (counting r.zero r.one)
  first_is_head = ap (λ (h : Head). h.first) r.numbers

  place_is : place ≡ place_at r.zero r.one
  place_is = ap (λ (h : Head). place_for h) r.numbers

  count_is : head.next - head.first ≡ length journal.records
  count_is = let n = number_is in let f = first_is_head in omega (arith, n, f)

  open_of : (found : Option FoundSlot) (place : Bool) → SlotIs tree place found → is_some found ≡ is_some (slot_at place tree)
  open_of None place (is_shut is) = ap (λ (o : Option (Option (List ℕ))). is_some o) (sym is)
  open_of (Some found) place (is_found has) = ap (λ (o : Option (Option (List ℕ))). is_some o) (sym has.there)

  open_is : (place : Bool) → slot_is_open head place ≡ is_some (slot_at place tree)
  open_is false = ap (λ (h : Head). h.zero_is_open) r.numbers ∙ open_of r.zero false r.zero_is
  open_is true = ap (λ (h : Head). h.one_is_open) r.numbers ∙ open_of r.one true r.one_is

  pub begins_so : SlotBegins journal place can.made.text ready told
  begins_so = record {
    few = subst (λ (n : ℕ). n < 2 ^ 63) (sym number_is) can.few;
    is = can.made.parts ∙ (λ i. ready_slot place (open_is place i) can.made.text (first_is_head i) (count_is i));
    rest = rests_here can.stands;
  }

  -- ---- the slot is shut

  shut_comes : (image : Tree) → IsReadAs (shut_slot journal place) image → ComesTo c files image
  shut_comes image is =
      let shut = place_at r.zero r.one in
      let zero_is : SlotIs image false (zero_now shut None r.zero) = zero_shut shut r.zero r.zero_is (is.same_slots false ∙ ap (λ (p : Bool). slots_with journal.slots p None false) place_is) in
      let one_is : SlotIs image true (one_now shut None r.one) = one_shut shut r.one r.one_is (is.same_slots true ∙ ap (λ (p : Bool). slots_with journal.slots p None true) place_is) in
      record {
        head = head_of (zero_now shut None r.zero) (one_now shut None r.one) head.old head.next;
        work = can.stands.work;
        reads = subst (λ (x : Contents). IsReadAt (head_of (zero_now shut None r.zero) (one_now shut None r.one) head.old head.next) x can.stands.work image) (sym r.says)
            (read_with (zero_now shut None r.zero) (one_now shut None r.one) zero_is one_is (counting r.zero r.one) (counting_shut r.zero r.one r.zero_is r.one_is) head.old
            (same_format (counting r.zero r.one) head.old (texts_of r.counted) tree image (texts_held r.counted) is.counted r.format) (counts_there image r.counted is.counted));
        same_files = is.same_files;
      }

  -- ---- the slot is written

  abbrev now : FoundSlot
  now = record { old = false; place = place; slot = snapshot }

  number : snapshot.number + 1 ≡ head.next
  number = let is = can.made.number in let n = number_is in let from = one_or_more (counting r.zero r.one) in omega (arith, is, n, from)
    where
      one_or_more : (found : Option FoundSlot) → 1 ≤ first_number found
      one_or_more None = omega arith
      one_or_more (Some found) = omega arith

  has_now : (image : Tree) → slot_at place image ≡ Some (Some can.made.text) → HasSlot false image place snapshot
  has_now image there = record {
    text = can.made.text;
    there = there;
    spelled = can.made.spelled;
    small = let n = number in let few = can.few in omega (arith, n, few);
    few = small_same c (contents_by head snapshot) can.says (read_small r);
  }

  due_less : (before : FoundSlot) (old : Bool) (first next n : ℕ) → (old || nat_le 64 (next - first)) ≡ true → first ≡ before.slot.number + 1 → first ≤ next → n + 1 ≡ next → before.old ≡ old
      → (before.slot.number < n) ⊎ ((before.slot.number ≡ n) × (before.old ≡ true))
  due_less before true first next n due is le number format = elim (cases_lt before.slot.number n) [
    | inl less ↦ inl less
    | inr more ↦ inr (omega (arith, is, le, number, more), format)
  ]
  due_less before false first next n due is le number format = inl (let b : 64 ≤ next - first = grind (arith, nat_tests) in omega (arith, b, is, number))

  old_of : (found : Option FoundSlot) (before : FoundSlot) (old : Bool) → found ≡ Some before → IsOld tree found old → before.old ≡ old
  old_of None before old is format = absurd (cc)
  old_of (Some found) before old is format = let e : found ≡ before = cc in ap (λ (f : FoundSlot). f.old) (sym e) ∙ format

  less_now : (before : FoundSlot) → counting r.zero r.one ≡ Some before → IsLess before now
  less_now before is =
      let first : head.first ≡ before.slot.number + 1 = first_is_head ∙ ap first_number is in
      let n = number_is in let f = first_is_head in
      due_less before head.old head.first head.next snapshot.number can.due first (omega (arith, n, f)) number (old_of (counting r.zero r.one) before head.old is r.format)

  abbrev zero_then : Option FoundSlot
  zero_then = zero_now (place_at r.zero r.one) (Some now) r.zero

  abbrev one_then : Option FoundSlot
  one_then = one_now (place_at r.zero r.one) (Some now) r.one

  here_at : (image : Tree) (q : Bool) → place ≡ q → slot_at place image ≡ Some (Some can.made.text) → SlotIs image q (Some now)
  here_at image q is there = subst (λ (p : Bool). SlotIs image p (Some now)) is (is_found (has_now image there))

  counts_now : counting zero_then one_then ≡ Some now
  counts_now = counting_anew r.zero r.one now r.zero_is r.one_is refl less_now

  head_is : head_of zero_then one_then false head.next ≡ with_slot head
  head_is = λ i. record {
    counts = option_map found_place (counts_now i);
    zero_is_open = (zero_some (place_at r.zero r.one) r.zero ∙ zero_is_so) i;
    one_is_open = (one_some (place_at r.zero r.one) r.one ∙ one_is_so) i;
    first = (ap first_number counts_now ∙ number) i;
    next = head.next;
    old = false;
  }
    where
      zero_some : (p : Bool) (zero : Option FoundSlot) → is_some (zero_now p (Some now) zero) ≡ (is_some zero || not p)
      zero_some false None = refl
      zero_some false (Some zero) = refl
      zero_some true None = refl
      zero_some true (Some zero) = refl

      one_some : (p : Bool) (one : Option FoundSlot) → is_some (one_now p (Some now) one) ≡ (is_some one || p)
      one_some false None = refl
      one_some false (Some one) = refl
      one_some true None = refl
      one_some true (Some one) = refl

      zero_is_so : (is_some r.zero || not (place_at r.zero r.one)) ≡ (head.zero_is_open || not place)
      zero_is_so = λ i. (sym (ap (λ (h : Head). h.zero_is_open) r.numbers) i || not (sym place_is i))

      one_is_so : (is_some r.one || place_at r.zero r.one) ≡ (head.one_is_open || place)
      one_is_so = λ i. (sym (ap (λ (h : Head). h.one_is_open) r.numbers) i || sym place_is i)

  written_read : (image : Tree) → IsReadAs (slot_written journal place can.made.text) image → IsReadAt (with_slot head) (contents_by head snapshot) [] image
  written_read image is =
      let there : slot_at place image ≡ Some (Some can.made.text) = is.same_slots place ∙ slot_here journal.slots place (Some (Some can.made.text)) in
      let zero_is : SlotIs image false zero_then = zero_anew (place_at r.zero r.one) r.zero now can.made.text r.zero_is (is.same_slots false ∙ ap (λ (p : Bool). slots_with journal.slots p (Some (Some can.made.text)) false) place_is)
      (λ at. here_at image false (place_is ∙ at) there) in
      let one_is : SlotIs image true one_then = one_anew (place_at r.zero r.one) r.one now can.made.text r.one_is (is.same_slots true ∙ ap (λ (p : Bool). slots_with journal.slots p (Some (Some can.made.text)) true) place_is)
      (λ at. here_at image true (place_is ∙ at) there) in
      let closed : IsFalse (is_open (first_number (Some now)) image) = subst (λ (n : ℕ). IsFalse (is_open n image)) (number_is ∙ sym number) is.counted in
      let counted : CountsTo false image (first_number (Some now)) (first_contents (Some now)) [] head.next (contents_by head snapshot) [] =
      subst (λ (n : ℕ). CountsTo false image (first_number (Some now)) (first_contents (Some now)) [] n (contents_by head snapshot) []) number (no_more closed) in
      subst (λ (h : Head). IsReadAt h (contents_by head snapshot) [] image) head_is (read_with zero_then one_then zero_is one_is (Some now) counts_now false refl counted)

  -- what a stop leaves
  pub same_there : (image : Tree) → IsSlotStage journal place can.made.text image → ComesToSame c files image
  same_there image (inl before) = record { contents = c; same = same_itself c; comes = comes_there r files image before }
  same_there image (inr (inl shut)) = record { contents = c; same = same_itself c; comes = shut_comes image shut }
  same_there image (inr (inr written)) = record {
    contents = contents_by head snapshot;
    same = can.says;
    comes = record { head = with_slot head; work = []; reads = written_read image written; same_files = written.same_files };
  }

  -- what the writing leaves
  pub stands_with : (told : Option State) → RestsAs (slot_written journal place can.made.text) told → StandsFor (with_slot head) (contents_by head snapshot) files told
  stands_with told rests = record {
    tree = rests.tree;
    tells = rests.tells;
    work = [];
    reads = written_read rests.tree rests.whole.reads;
    done = rests.whole.reads.same_files;
    same_files = rests.whole.same_files;
  }

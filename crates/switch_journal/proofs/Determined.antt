-- Files say at most one thing, by the laws that bytes spell at most one record and at most one slot.
use Rattle.std.proofs.Common.{◌≡◌, ◌∙◌, ℕ, ◌+◌, List, Bool, true, false, IsTrue, IsFalse, refl, sym, subst, ap, slice_index_or, ◌==◌}
use Rattle.std.specs.declared.option.Option.{Option}
use Rattle.std.specs.declared.option.Option.TheVariants.{None, Some}
use Rattle.crash_disk.specs.Disks.{Tree}
use Rattle.journal_text.specs.Laws.{OneRecordForBytes, OneSlotForBytes}
use Rattle.journal_text.specs.Slots.{IsOldSlotSpelledBy, IsSlotSpelledBy}
use Rattle.journal_text.specs.declared.record.Rec.{Rec}
use Rattle.journal_text.specs.declared.slot.Snapshot.{Snapshot}
use Rattle.switch_journal.specs.Contents.{Contents}
use Rattle.switch_journal.specs.Places.{is_open}
use Rattle.switch_journal.specs.Reading.{Applies, Counts, FoundSlot, HasSlot, IsOld, IsSlotBad, Outcome, Reads, SlotIs, SpellsRecord, SpellsSlot, after_record, no_more, one_more, bad, is_shut, is_found, first_slot_bad, second_slot_bad, read, counting, first_contents, first_number, at_end}

pub some_same : {X : Type 0} {a b : X} → Some a ≡ Some b → a ≡ b
some_same is = cc

pub same_record : OneRecordForBytes → (old : Bool) (a b : Rec) (text : List ℕ) → SpellsRecord old a text → SpellsRecord old b text → a ≡ b
same_record law true a b text one other = law.old a b text one other
same_record law false a b text one other = law.written a b text one other

-- record k is applied in one way
pub applies_once : OneRecordForBytes → {old : Bool} {tree : Tree} {k : ℕ} {c a b : Contents} → Applies old tree k c a → Applies old tree k c b → a ≡ b
applies_once law {old} {tree} {k} {c} {a} {b} one other =
    let texts : one.text ≡ other.text = some_same (sym one.there ∙ other.there) in
    let entries : one.entry ≡ other.entry = same_record law old one.entry other.entry other.text (subst (SpellsRecord old one.entry) texts one.spelled) other.spelled in
    some_same (sym one.applies ∙ ap (λ entry. after_record old k entry c) entries ∙ other.applies)

-- a gate is not shut and open
pub not_both : (k : ℕ) (tree : Tree) → IsFalse (is_open k tree) → IsTrue (is_open k tree) → ⊥
not_both k tree closed opened = absurd (let e : false ≡ true = sym closed ∙ opened in cc)

-- records are counted in one way
counts_once : OneRecordForBytes → (old : Bool) (tree : Tree) (k : ℕ) (c : Contents) (a b : Outcome) → Counts old tree k c a → Counts old tree k c b → a ≡ b
counts_once law old tree k c a b (no_more is) (no_more other) = refl
counts_once law old tree k c a b (no_more is) (one_more opens applies more) = absurd (not_both k tree is opens)
counts_once law old tree k c a b (no_more is) (bad opens none) = absurd (not_both k tree is opens)
counts_once law old tree k c a b (one_more opens applies more) (no_more is) = absurd (not_both k tree is opens)
counts_once law old tree k c a b (one_more {after = mid} opens applies more) (one_more {after = other} opened applied rest) =
    let same : mid ≡ other = applies_once law applies applied in
    counts_once law old tree (k + 1) other a b (subst (λ (after : Contents). Counts old tree (k + 1) after a) same more) rest
counts_once law old tree k c a b (one_more {after = mid} opens applies more) (bad other none) = absurd (none mid applies)
counts_once law old tree k c a b (bad opens none) (no_more is) = absurd (not_both k tree is opens)
counts_once law old tree k c a b (bad opens none) (one_more {after = mid} other applies more) = absurd (none mid applies)
counts_once law old tree k c a b (bad opens none) (bad other nothing) = refl

-- ---- slots

-- no bytes spell slots of both formats
not_both_formats : (a b : Snapshot) (text : List ℕ) → IsOldSlotSpelledBy a text → IsSlotSpelledBy b text → ⊥
not_both_formats a b text one other = absurd (let e : true ≡ false = ap (λ (bytes : List ℕ). slice_index_or bytes 7 0 == 49) (sym one.bytes_are ∙ other.bytes_are) in cc)

pub same_slot : OneSlotForBytes → (old new : Bool) (a b : Snapshot) (text : List ℕ) → SpellsSlot old a text → SpellsSlot new b text → (old ≡ new) × (a ≡ b)
same_slot law true true a b text one other = (refl, law.old a b text one other)
same_slot law true false a b text one other = absurd (not_both_formats a b text one other)
same_slot law false true a b text one other = absurd (not_both_formats b a text other one)
same_slot law false false a b text one other = (refl, law.written a b text one other)

-- a slot is read in one way
has_once : OneSlotForBytes → (tree : Tree) (place old new : Bool) (a b : Snapshot) → HasSlot old tree place a → HasSlot new tree place b → (old ≡ new) × (a ≡ b)
has_once law tree place old new a b one other =
    let texts : one.text ≡ other.text = let e : Some (Some one.text) ≡ Some (Some other.text) = sym one.there ∙ other.there in cc in
    same_slot law old new a b other.text (subst (SpellsSlot old a) texts one.spelled) other.spelled

pub slot_once : OneSlotForBytes → (tree : Tree) (place : Bool) (a b : Option FoundSlot) → SlotIs tree place a → SlotIs tree place b → a ≡ b
slot_once law tree place a b (is_shut is) (is_shut other) = refl
slot_once law tree place a b (is_shut is) (is_found has) = let e : None ≡ Some (Some has.text) = sym is ∙ has.there in absurd (cc)
slot_once law tree place a b (is_found has) (is_shut is) = let e : None ≡ Some (Some has.text) = sym is ∙ has.there in absurd (cc)
slot_once law tree place a b (is_found {old = old} {slot = one} has) (is_found {old = new} {slot = other} had) =
    let same = has_once law tree place old new one other has had in
    λ i. Some (record { old = same.0 i; place = place; slot = same.1 i })

-- a slot is not read and bad
pub not_bad : (tree : Tree) (place : Bool) (a : Option FoundSlot) → SlotIs tree place a → IsSlotBad tree place → ⊥
not_bad tree place a (is_shut is) is_bad = is_bad.is_open is
not_bad tree place a (is_found {old = old} {slot = slot} has) is_bad = is_bad.none old slot has

-- ---- the whole

pub one_format : (tree : Tree) (slot : Option FoundSlot) (a b : Bool) → IsOld tree slot a → IsOld tree slot b → a ≡ b
one_format tree (Some slot) a b one other = sym one ∙ other
one_format tree None true true one other = refl
one_format tree None true false one other = absurd (other one)
one_format tree None false true one other = absurd (one other)
one_format tree None false false one other = refl

-- files say one thing
pub reads_once : OneRecordForBytes → OneSlotForBytes → (tree : Tree) (a b : Outcome) → Reads tree a → Reads tree b → a ≡ b
reads_once entries slots tree a b (first_slot_bad is) (first_slot_bad other) = refl
reads_once entries slots tree a b (first_slot_bad is) (second_slot_bad {first = first} has other) = absurd (not_bad tree false first has is)
reads_once entries slots tree a b (first_slot_bad is) (read {first = first} has second old counts) = absurd (not_bad tree false first has is)
reads_once entries slots tree a b (second_slot_bad {first = first} has is) (first_slot_bad other) = absurd (not_bad tree false first has other)
reads_once entries slots tree a b (second_slot_bad has is) (second_slot_bad had other) = refl
reads_once entries slots tree a b (second_slot_bad has is) (read {first = first} {second = second} had seconds old counts) = absurd (not_bad tree true second seconds is)
reads_once entries slots tree a b (read {first = first} has seconds old counts) (first_slot_bad other) = absurd (not_bad tree false first has other)
reads_once entries slots tree a b (read {first = first} {second = second} has seconds old counts) (second_slot_bad had other) = absurd (not_bad tree true second seconds other)
reads_once entries slots tree a b (read {first = f} {second = s} {old = x} {outcome = r} has seconds old counts) (read {first = g} {second = t} {old = y} {outcome = q} had others new counted) =
    let firsts : f ≡ g = slot_once slots tree false f g has had in
    let lasts : s ≡ t = slot_once slots tree true s t seconds others in
    let places : counting f s ≡ counting g t = λ i. counting (firsts i) (lasts i) in
    let formats : x ≡ y = one_format tree (counting g t) x y (subst (λ (slot : Option FoundSlot). IsOld tree slot x) places old) new in
    let here : Counts y tree (first_number (counting g t)) (first_contents (counting g t)) r =
    subst (λ (old : Bool). Counts old tree (first_number (counting g t)) (first_contents (counting g t)) r) formats
    (subst (λ (slot : Option FoundSlot). Counts x tree (first_number slot) (first_contents slot) r) places counts) in
    let outcomes : r ≡ q = counts_once entries y tree (first_number (counting g t)) (first_contents (counting g t)) r q here counted in
    λ i. at_end (formats i) (outcomes i)

-- Each map of files says something or has a first bad file, by the laws that bytes spell a record or none, and a slot or none.
use Rattle.std.proofs.Common.{◌≡◌, ◌∙◌, ℕ, zero, suc, ◌+◌, ◌<◌, ◌≤◌, ◌^◌, List, Bool, true, false, IsTrue, Option, Some, None, refl, sym, subst, ap, arith, ◌⊎◌, inl, inr}
use Rattle.std.specs.FinMap.{get}
use Rattle.crash_disk.specs.Disks.{Tree}
use Rattle.journal_text.specs.Laws.{OneRecordForBytes, OneSlotForBytes, RecordOrNoneForBytes, SlotOrNoneForBytes}
use Rattle.journal_text.specs.declared.record.Rec.{Rec}
use Rattle.journal_text.specs.declared.slot.Snapshot.{Snapshot}
use Rattle.journal_text.proofs.Deciding.{Decided, both_decided, decided_as, less_decided, true_decided}
use Rattle.switch_journal.specs.Contents.{Contents}
use Rattle.switch_journal.specs.Places.{is_open, record_path, slot_path, text_of}
use Rattle.switch_journal.specs.Reading.{Applies, BadAt, BeginsOld, Counts, FoundSlot, HasSlot, IsOld, IsSlotBad, Outcome, Reads, Says, SlotIs, SpellsRecord, SpellsSlot, after_record, at_end, bad, counting, first_contents, first_number, first_slot_bad, is_found, is_shut, is_small, no_more, one_more, read, second_slot_bad, slot_contents}
use Rattle.switch_journal.specs.Texts.{slot_at}
use Rattle.switch_journal.proofs.Determined.{not_both, same_record, same_slot, some_same}

some_or_none : {X : Type 0} (Spelled : X → Type 0) → ((x : X) × Spelled x) ⊎ ((x : X) → ¬ (Spelled x)) → Decided ((x : X) × Spelled x)
some_or_none Spelled (inl some) = inl some
some_or_none Spelled (inr none) = inr (λ h. none h.0 h.1)

-- ---- records

entry_decided : RecordOrNoneForBytes → (old : Bool) (text : List ℕ) → Decided ((entry : Rec) × SpellsRecord old entry text)
entry_decided law true text = some_or_none (λ entry. SpellsRecord true entry text) (law.old text)
entry_decided law false text = some_or_none (λ entry. SpellsRecord false entry text) (law.written text)

-- record k can be applied
abbrev CanApply : Bool → Tree → ℕ → Contents → Type 0
CanApply old tree k c = (after : Contents) × Applies old tree k c after

after_decided : OneRecordForBytes → (old : Bool) (tree : Tree) (k : ℕ) (c : Contents) (text : List ℕ) (entry : Rec) → text_of (get tree (record_path k)) ≡ Some text → k < 2 ^ 63 → SpellsRecord old entry text
    → (found : Option Contents) → after_record old k entry c ≡ found → Decided (CanApply old tree k c)
after_decided law old tree k c text entry there small spelled (Some after) is = inl (after, record { text = text; entry = entry; small = small; there = there; spelled = spelled; applies = is })
after_decided law old tree k c text entry there small spelled None is = inr (λ h.
    let texts : h.1.text ≡ text = some_same (sym h.1.there ∙ there) in
    let entries : entry ≡ h.1.entry = same_record law old entry h.1.entry text spelled (subst (SpellsRecord old h.1.entry) texts h.1.spelled) in
    let e : None ≡ Some h.0 = sym is ∙ ap (λ (r : Rec). after_record old k r c) entries ∙ h.1.applies in absurd cc)

spelled_decided : OneRecordForBytes → (old : Bool) (tree : Tree) (k : ℕ) (c : Contents) (text : List ℕ) → text_of (get tree (record_path k)) ≡ Some text → k < 2 ^ 63
    → Decided ((entry : Rec) × SpellsRecord old entry text) → Decided (CanApply old tree k c)
spelled_decided law old tree k c text there small (inl some) = after_decided law old tree k c text some.0 there small some.1 (after_record old k some.0 c) refl
spelled_decided law old tree k c text there small (inr none) = inr (λ h.
    let texts : h.1.text ≡ text = some_same (sym h.1.there ∙ there) in
    none (h.1.entry, subst (SpellsRecord old h.1.entry) texts h.1.spelled))

small_decided : OneRecordForBytes → RecordOrNoneForBytes → (old : Bool) (tree : Tree) (k : ℕ) (c : Contents) (text : List ℕ) → text_of (get tree (record_path k)) ≡ Some text → Decided (k < 2 ^ 63)
    → Decided (CanApply old tree k c)
small_decided one law old tree k c text there (inl small) = spelled_decided one old tree k c text there small (entry_decided law old text)
small_decided one law old tree k c text there (inr large) = inr (λ h. large h.1.small)

text_decided : OneRecordForBytes → RecordOrNoneForBytes → (old : Bool) (tree : Tree) (k : ℕ) (c : Contents) (file : Option (List ℕ)) → text_of (get tree (record_path k)) ≡ file → Decided (CanApply old tree k c)
text_decided one law old tree k c None is = inr (λ h. let e : None ≡ Some h.1.text = sym is ∙ h.1.there in absurd cc)
text_decided one law old tree k c (Some text) is = small_decided one law old tree k c text is (less_decided k (2 ^ 63))

-- records from number k on say something, or one of them is bad
abbrev IsCounted : Bool → Tree → ℕ → Contents → Type 0
IsCounted old tree k c = (outcome : Outcome) × Counts old tree k c outcome

count_on : (old : Bool) (tree : Tree) (k : ℕ) (c : Contents) → ((after : Contents) → Applies old tree k c after → IsCounted old tree (k + 1) after) → Decided (CanApply old tree k c)
    → (opened : Bool) → is_open k tree ≡ opened → IsCounted old tree k c
count_on old tree k c more can false is = (Says c, no_more is)
count_on old tree k c more (inl some) true is = let rest = more some.0 some.1 in (rest.0, one_more is some.1 rest.1)
count_on old tree k c more (inr none) true is = (BadAt (record_path k), bad is (λ after applies. none (after, applies)))

-- after so many records more the number is too large
count_all : OneRecordForBytes → RecordOrNoneForBytes → (left : ℕ) (old : Bool) (tree : Tree) (k : ℕ) (c : Contents) → 2 ^ 63 ≤ k + left → IsCounted old tree k c
count_all one law zero old tree k c last =
    count_on old tree k c (λ after applies. absurd (omega (arith, applies.small, last))) (text_decided one law old tree k c (text_of (get tree (record_path k))) refl) (is_open k tree) refl
count_all one law (suc left) old tree k c last =
    count_on old tree k c (λ after applies. count_all one law left old tree (k + 1) after (omega (arith, last))) (text_decided one law old tree k c (text_of (get tree (record_path k))) refl) (is_open k tree) refl

-- ---- slots

found_decided : SlotOrNoneForBytes → (old : Bool) (text : List ℕ) → Decided ((slot : Snapshot) × SpellsSlot old slot text)
found_decided law true text = some_or_none (λ slot. SpellsSlot true slot text) (law.old text)
found_decided law false text = some_or_none (λ slot. SpellsSlot false slot text) (law.written text)

some_text : {a b : List ℕ} → Some (Some a) ≡ Some (Some b) → a ≡ b
some_text is = cc

has_by : OneSlotForBytes → (old : Bool) (tree : Tree) (place : Bool) (text : List ℕ) → slot_at place tree ≡ Some (Some text) → Decided ((slot : Snapshot) × SpellsSlot old slot text)
    → Decided ((slot : Snapshot) × HasSlot old tree place slot)
has_by law old tree place text there (inr none) = inr (λ h. none (h.0, subst (SpellsSlot old h.0) (some_text (sym h.1.there ∙ there)) h.1.spelled))
has_by law old tree place text there (inl some) =
    let slot = some.0 in
    decided_as (λ h. (slot, record { text = text; there = there; spelled = some.1; small = h.0; few = h.1 }))
    (λ h.
    let spelled = subst (SpellsSlot old h.0) (some_text (sym h.1.there ∙ there)) h.1.spelled in
    let same : h.0 ≡ slot = (same_slot law old old h.0 slot text spelled some.1).1 in
    subst (λ (s : Snapshot). (s.number < 2 ^ 63) × IsTrue (is_small (slot_contents (slot_path place) s))) same (h.1.small, h.1.few))
    (both_decided (less_decided slot.number (2 ^ 63)) (true_decided (is_small (slot_contents (slot_path place) slot))))

-- a slot is shut or found, or it is bad
abbrev IsTold : Tree → Bool → Type 0
IsTold tree place = ((found : Option FoundSlot) × SlotIs tree place found) ⊎ IsSlotBad tree place

none_has : (tree : Tree) (place : Bool) → ¬ ((slot : Snapshot) × HasSlot true tree place slot) → ¬ ((slot : Snapshot) × HasSlot false tree place slot) → (old : Bool) (slot : Snapshot) → ¬ (HasSlot old tree place slot)
none_has tree place no_old no_new true slot = λ has. no_old (slot, has)
none_has tree place no_old no_new false slot = λ has. no_new (slot, has)

told_by : (tree : Tree) (place : Bool) → ¬ (slot_at place tree ≡ None) → Decided ((slot : Snapshot) × HasSlot true tree place slot) → Decided ((slot : Snapshot) × HasSlot false tree place slot) → IsTold tree place
told_by tree place opened (inl some) other = inl (Some (record { old = true; place = place; slot = some.0 }), is_found some.1)
told_by tree place opened (inr none) (inl some) = inl (Some (record { old = false; place = place; slot = some.0 }), is_found some.1)
told_by tree place opened (inr none) (inr nothing) = inr (record { is_open = opened; none = none_has tree place none nothing })

slot_told : OneSlotForBytes → SlotOrNoneForBytes → (tree : Tree) (place : Bool) (file : Option (Option (List ℕ))) → slot_at place tree ≡ file → IsTold tree place
slot_told one law tree place None is = inl (None, is_shut is)
slot_told one law tree place (Some None) is = inr (record {
  is_open = λ shut. let e : None ≡ Some None = sym shut ∙ is in absurd cc;
  none = λ old slot has. let e : Some None ≡ Some (Some has.text) = sym is ∙ has.there in absurd cc;
})
slot_told one law tree place (Some (Some text)) is =
    told_by tree place (λ shut. let e : None ≡ Some (Some text) = sym shut ∙ is in absurd cc) (has_by one true tree place text is (found_decided law true text))
    (has_by one false tree place text is (found_decided law false text))

-- ---- the format

begins_by : RecordOrNoneForBytes → (tree : Tree) (opened : Bool) → is_open 1 tree ≡ opened → (file : Option (List ℕ)) → text_of (get tree (record_path 1)) ≡ file → Decided (BeginsOld tree)
begins_by law tree false shut file is = inr (λ begins. not_both 1 tree shut begins.opened)
begins_by law tree true opened None is = inr (λ begins. let e : None ≡ Some begins.text = sym is ∙ begins.there in absurd cc)
begins_by law tree true opened (Some text) is =
    decided_as (λ h. record { text = text; entry = h.0; opened = opened; there = is; spelled = h.1 })
    (λ begins. (begins.entry, subst (SpellsRecord true begins.entry) (some_same (sym begins.there ∙ is)) begins.spelled)) (entry_decided law true text)

format_of : (tree : Tree) → Decided (BeginsOld tree) → (old : Bool) × IsOld tree None old
format_of tree (inl begins) = (true, begins)
format_of tree (inr not) = (false, not)

format_told : RecordOrNoneForBytes → (tree : Tree) (found : Option FoundSlot) → (old : Bool) × IsOld tree found old
format_told law tree (Some found) = (found.old, refl)
format_told law tree None = format_of tree (begins_by law tree (is_open 1 tree) refl (text_of (get tree (record_path 1))) refl)

-- ---- the whole

read_by : OneRecordForBytes → RecordOrNoneForBytes → (tree : Tree) → IsTold tree false → IsTold tree true → (outcome : Outcome) × Reads tree outcome
read_by one law tree (inr first) second = (BadAt (slot_path false), first_slot_bad first)
read_by one law tree (inl first) (inr second) = (BadAt (slot_path true), second_slot_bad first.1 second)
read_by one law tree (inl first) (inl second) =
    let found = counting first.0 second.0 in
    let format = format_told law tree found in
    let counted = count_all one law (2 ^ 63) format.0 tree (first_number found) (first_contents found) (omega arith) in
    (at_end format.0 counted.0, read first.1 second.1 format.1 counted.1)

pub each_read : OneRecordForBytes → OneSlotForBytes → RecordOrNoneForBytes → SlotOrNoneForBytes → (tree : Tree) → (outcome : Outcome) × Reads tree outcome
each_read one_record one_slot records slots tree =
    read_by one_record records tree (slot_told one_slot slots tree false (slot_at false tree) refl) (slot_told one_slot slots tree true (slot_at true tree) refl)

-- A slot that is found in its place, by the bytes that stand there.
use Rattle.std.proofs.Common.{◌≡◌, ◌∙◌, ℕ, suc, ◌<◌, ◌≤◌, ◌^◌, List, [], ◌∷◌, length, map, slice_get, Bool, true, false, refl, sym, subst, ap, arith, Option, Some, None, if◌then◌else◌}
use Rattle.std.specs.Prelude.{nat_le, nat_lt, ◌&&◌}
use Rattle.std.specs.FinMap.{get}
use Rattle.std.specs.List.{cons_option, filter_map, list_all}
use Rattle.std.specs.Option.{option_map}
use Rattle.std.proofs.lemmas.Bool.{and_from, and_parts, false≢true, lt-ltb, ltb-true}
use Rattle.std.proofs.lemmas.Option.{slice_get-get_or}
use Rattle.crash_disk.specs.Disks.{Kept, Tree}
use Rattle.journal_text.specs.Laws.{OneSlotForBytes}
use Rattle.journal_text.specs.Slots.{IsSlotInOrder, SpellNoOldSlot, SpellNoSlot, has_owner}
use Rattle.journal_text.specs.declared.record.Entry.{Entry}
use Rattle.journal_text.specs.declared.slot.Owned.{Owned}
use Rattle.journal_text.specs.declared.slot.Snapshot.{Snapshot}
use Rattle.journal_text.specs.declared.slot.TheConstants.{SLOT_LIMIT}
use Rattle.owner_map.specs.Owning.{owned_by}
use Rattle.switch_journal.specs.Applying.{are_few}
use Rattle.switch_journal.specs.Contents.{entry_of}
use Rattle.switch_journal.specs.Found.{IsFit, IsSlotRead, IsSlotText, few_in, is_within, limited, not_spelled, spelled}
use Rattle.switch_journal.specs.Gated.{IsBehind}
use Rattle.switch_journal.specs.Places.{opens, slot_gate, slot_path, text_of}
use Rattle.switch_journal.specs.Reading.{IsSlotBad, SpellsSlot, is_found, is_shut, is_small, owned_with, slot_contents, standing_of}
use Rattle.switch_journal.specs.Texts.{slot_at}
use Rattle.switch_journal.specs.declared.gated.Gated.TheVariants as found
use Rattle.switch_journal.specs.declared.request.TheConstants.{OWNED_LIMIT}
use Rattle.switch_journal.specs.declared.open_slot.SlotRead.{SlotRead}
use Rattle.switch_journal.specs.declared.open_slot.SlotRead.TheVariants.{Bad, Good}
use Rattle.switch_journal.proofs.Determined.{same_slot}

-- ---- how much a slot says

entries_are : (from : List ℕ) (entries : List Entry) → map entry_of (map (standing_of from) entries) ≡ entries
entries_are from [] = refl
entries_are from (entry ∷ entries) = ap (λ (es : List Entry). entry ∷ es) (entries_are from entries)

pub owned_at : (entries : List Entry) (o : Owned) (d : Entry) → has_owner (length entries) o ≡ true → (entry : Entry) × (slice_get entries o.owner ≡ Some entry)
owned_at entries o d is = (_, slice_get-get_or entries o.owner d (ltb-true o.owner (length entries) is))

first_or : (entries : List Entry) (o : Owned) → has_owner (length entries) o ≡ true → (entry : Entry) × (slice_get entries o.owner ≡ Some entry)
first_or [] o is = absurd (let e : o.owner < 0 = ltb-true o.owner 0 is in omega (arith, e))
first_or (entry ∷ entries) o is = owned_at (entry ∷ entries) o entry is

owned_some : (entries : List Entry) (o : Owned) (entry : Entry) → slice_get entries o.owner ≡ Some entry → owned_with entries o ≡ Some (owned_by o.path entry.pkg)
owned_some entries o entry is = ap (option_map (λ (e : Entry). owned_by o.path e.pkg)) is

owned_count : (entries : List Entry) (owned : List Owned) → list_all (has_owner (length entries)) owned ≡ true → length (filter_map (owned_with entries) owned) ≡ length owned
owned_count entries [] all = refl
owned_count entries (o ∷ owned) all =
    let parts = and_parts (has_owner (length entries) o) (list_all (has_owner (length entries)) owned) all in
    let one = first_or entries o parts.0 in
    ap (λ x. length (cons_option x (filter_map (owned_with entries) owned))) (owned_some entries o one.0 one.1) ∙ ap suc (owned_count entries owned parts.1)

few_is : (from : List ℕ) (slot : Snapshot) → IsSlotInOrder slot → is_small (slot_contents from slot) ≡ few_in slot
few_is from slot order = λ i. are_few (entries_are from slot.entries i) && nat_le (owned_count slot.entries slot.owned order.owners_are_among i) OWNED_LIMIT

-- ---- the bytes of a slot

pub slot_ordered : (old : Bool) (slot : Snapshot) (text : List ℕ) → SpellsSlot old slot text → IsSlotInOrder slot
slot_ordered true slot text spells = spells.ordered
slot_ordered false slot text spells = spells.ordered

slot_short : (old : Bool) (slot : Snapshot) (text : List ℕ) → SpellsSlot old slot text → length text ≤ SLOT_LIMIT
slot_short true slot text spells = spells.short
slot_short false slot text spells = spells.short

small_number : (slot : Snapshot) → is_within slot ≡ true → slot.number < 2 ^ 63
small_number slot is = ltb-true slot.number (2 ^ 63) (and_parts (nat_lt slot.number (2 ^ 63)) (few_in slot) is).0

limited_by : OneSlotForBytes → (old place : Bool) (slot : Snapshot) (text : List ℕ) (b : Bool) → is_within slot ≡ b → SpellsSlot old slot text → IsSlotText text place (if b then Good (Some (record { old = old; place = place; slot = slot })) else Bad)
limited_by law old place slot text true is spells = spelled spells is
limited_by law old place slot text false is spells =
    not_spelled (λ format other also within. let e : false ≡ true = sym is ∙ ap is_within (same_slot law old format slot other text spells also).1 ∙ within in absurd (false≢true e))

-- the slot that is spelled, within the limits or not
pub text_spelled : OneSlotForBytes → (old place : Bool) (slot : Snapshot) (text : List ℕ) → SpellsSlot old slot text → IsSlotText text place (limited old place slot)
text_spelled law old place slot text spells = limited_by law old place slot text (is_within slot) refl spells

none_spelled : (text : List ℕ) → SpellNoSlot text → SpellNoOldSlot text → (old : Bool) (slot : Snapshot) → SpellsSlot old slot text → ⊥
none_spelled text new gone true slot spells = gone slot spells
none_spelled text new gone false slot spells = new slot spells

pub text_not_spelled : (place : Bool) (text : List ℕ) → SpellNoSlot text → SpellNoOldSlot text → IsSlotText text place Bad
text_not_spelled place text new gone = not_spelled (λ old slot spells within. none_spelled text new gone old slot spells)

pub text_fits : {text : List ℕ} {place : Bool} {found : SlotRead} → IsSlotText text place found → IsFit found
text_fits {text} (spelled {old = old} {slot = slot} spells within) = record { ordered = slot_ordered old slot text spells; small = small_number slot within }
text_fits (not_spelled none) = tt

-- ---- a slot in its place

module _ (tree : Tree) (place : Bool) where
  shut_is : opens (get tree (slot_gate place)) ≡ false → slot_at place tree ≡ None
  shut_is shut = ap (λ (b : Bool). if b then Some (text_of (get tree (slot_path place))) else None) shut

  open_is : opens (get tree (slot_gate place)) ≡ true → slot_at place tree ≡ Some (text_of (get tree (slot_path place)))
  open_is opened = ap (λ (b : Bool). if b then Some (text_of (get tree (slot_path place))) else None) opened

  pub read_shut : opens (get tree (slot_gate place)) ≡ false → IsSlotRead tree place (Good None)
  read_shut shut = is_shut (shut_is shut)

  -- a slot behind an open gate that no text within the limit stands for
  bad_by : opens (get tree (slot_gate place)) ≡ true → ((text : List ℕ) → text_of (get tree (slot_path place)) ≡ Some text → SLOT_LIMIT < length text) → IsSlotBad tree place
  bad_by opened long = record {
    is_open = λ shut. let e : None ≡ Some (text_of (get tree (slot_path place))) = sym shut ∙ open_is opened in absurd (cc);
    none = λ old slot has.
        let e : Some (text_of (get tree (slot_path place))) ≡ Some (Some has.text) = sym (open_is opened) ∙ has.there in
        let there : text_of (get tree (slot_path place)) ≡ Some has.text = cc in
        let short = slot_short old slot has.text has.spelled in
        let too_long = long has.text there in
        omega (arith, short, too_long);
  }

  pub read_absent : opens (get tree (slot_gate place)) ≡ true → IsBehind (get tree (slot_path place)) SLOT_LIMIT found.Absent → IsSlotBad tree place
  read_absent opened behind = bad_by opened (λ text there. absurd (absent (get tree (slot_path place)) text behind there))
    where
      absent : (file : Option Kept) (text : List ℕ) → IsBehind file SLOT_LIMIT found.Absent → text_of file ≡ Some text → ⊥
      absent None text behind there = absurd (let e : None ≡ Some text = there in cc)
      absent (Some file) text behind there = behind

  pub read_long : opens (get tree (slot_gate place)) ≡ true → IsBehind (get tree (slot_path place)) SLOT_LIMIT found.TooLong → IsSlotBad tree place
  read_long opened behind = bad_by opened (λ text there. long (get tree (slot_path place)) text behind there)
    where
      long : (file : Option Kept) (text : List ℕ) → IsBehind file SLOT_LIMIT found.TooLong → text_of file ≡ Some text → SLOT_LIMIT < length text
      long None text behind there = absurd (let e : None ≡ Some text = there in cc)
      long (Some file) text behind there = let same : file.bytes ≡ text = let e : Some file.bytes ≡ Some text = there in cc in subst (λ (bytes : List ℕ). SLOT_LIMIT < length bytes) same behind

  text_there : (file : Option Kept) (text : List ℕ) → IsBehind file SLOT_LIMIT (found.Text text) → text_of file ≡ Some text
  text_there None text behind = absurd (let e : found.Text text ≡ found.Absent = behind in cc)
  text_there (Some file) text behind = ap (λ (bytes : List ℕ). Some bytes) (sym behind.0)

  read_by : {text : List ℕ} {read : SlotRead} → slot_at place tree ≡ Some (Some text) → IsSlotText text place read → IsSlotRead tree place read
  read_by {text} there (spelled {old = old} {slot = slot} spells within) =
      let order = slot_ordered old slot text spells in
      is_found (record {
        text = text;
        there = there;
        spelled = spells;
        small = small_number slot within;
        few = few_is (slot_path place) slot order ∙ (and_parts (nat_lt slot.number (2 ^ 63)) (few_in slot) within).1;
      })
  read_by {text} there (not_spelled none) = record {
    is_open = λ shut. let e : None ≡ Some (Some text) = sym shut ∙ there in absurd (cc);
    none = λ old slot has.
        let e : Some (Some has.text) ≡ Some (Some text) = sym has.there ∙ there in
        let same : has.text ≡ text = cc in
        let order = slot_ordered old slot has.text has.spelled in
        none old slot (subst (SpellsSlot old slot) same has.spelled) (within_of slot has.small (sym (few_is (slot_path place) slot order) ∙ has.few));
  }
    where
      within_of : (slot : Snapshot) → slot.number < 2 ^ 63 → few_in slot ≡ true → is_within slot ≡ true
      within_of slot small few = and_from (nat_lt slot.number (2 ^ 63)) (few_in slot) (lt-ltb slot.number (2 ^ 63) small) few

  pub read_text : {text : List ℕ} {read : SlotRead} → opens (get tree (slot_gate place)) ≡ true → IsBehind (get tree (slot_path place)) SLOT_LIMIT (found.Text text) → IsSlotText text place read → IsSlotRead tree place read
  read_text {text} opened behind is = read_by (open_is opened ∙ ap (λ (t : Option (List ℕ)). Some t) (text_there (get tree (slot_path place)) text behind)) is

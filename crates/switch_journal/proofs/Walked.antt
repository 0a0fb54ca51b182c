-- A walk over the records, number by number.
use Rattle.std.proofs.Common.{◌≡◌, ◌∙◌, ℕ, ◌+◌, ◌<◌, ◌≤◌, ◌^◌, List, [], length, Bool, true, false, IsTrue, IsFalse, refl, sym, subst, ap, arith, slice_index_or, ◌==◌, Option, Some, None}
use Rattle.std.specs.Prelude.{IfSome, IfNone, is_some}
use Rattle.std.specs.FinMap.{get}
use Rattle.std.specs.Option.{option_map}
use Rattle.crash_disk.specs.Disks.{Tree}
use Rattle.crash_disk.specs.declared.batch.Write.{Write}
use Rattle.journal_text.specs.Laws.{OneRecordForBytes}
use Rattle.journal_text.specs.Records.{IsInOrder, IsOldSpelledBy, IsSpelledBy, SpellNoOldRecord, SpellNoRecord, old_bytes}
use Rattle.journal_text.specs.declared.record.Rec.{Rec}
use Rattle.journal_text.specs.declared.record.Rec.TheVariants.{Install, PutBack, Remove, Begin, End}
use Rattle.journal_text.specs.declared.record.TheConstants.{RECORD_LIMIT}
use Rattle.switch_journal.specs.Contents.{Contents}
use Rattle.switch_journal.specs.Journal as journal
use Rattle.switch_journal.specs.Journal.{CountsTo, work_of, work_with}
use Rattle.switch_journal.specs.Places.{is_open, record_path, text_of}
use Rattle.switch_journal.specs.Reading as reading
use Rattle.switch_journal.specs.Reading.{Applies, BadAt, BeginsOld, Counts, FoundSlot, IsOld, SpellsRecord, after_record, empty_contents, first_contents, first_number}
use Rattle.switch_journal.specs.Walks.{IsEntry, IsFirst, IsFirstText, IsFormatOf, IsSpelled, IsStep, IsStepText, IsText, IsTurn, IsWalked, IsWalkedAfter, SpellsNone, said_of, taken_by}
use Rattle.switch_journal.specs.declared.walk.First.{First}
use Rattle.switch_journal.specs.declared.walk.Turn.TheVariants as turn
use Rattle.switch_journal.specs.declared.walk.Walk.{Walk}
use Rattle.switch_journal.specs.declared.walk.Walked.{Walked}
use Rattle.switch_journal.specs.declared.walk.Walked.TheVariants as walked
use Rattle.switch_journal.proofs.Determined.{not_both, same_record}

-- ---- one record

-- a record's work, by the paths that it takes away
pub work_taken : (entry : Rec) (c : Contents) → work_with entry (taken_by entry c) ≡ work_of entry c
work_taken (Install pkg opam files) c = refl
work_taken (PutBack pkg opam files) c = refl
work_taken (Remove pkg kept) c = refl
work_taken (Begin roots target removals) c = refl
work_taken End c = refl

pub spelled_order : (old : Bool) (entry : Rec) (text : List ℕ) → SpellsRecord old entry text → IsInOrder entry
spelled_order true entry text spelled = spelled.ordered
spelled_order false entry text spelled = spelled.ordered

spelled_short : (old : Bool) (entry : Rec) (text : List ℕ) → SpellsRecord old entry text → length text ≤ RECORD_LIMIT
spelled_short true entry text spelled = spelled.short
spelled_short false entry text spelled = spelled.short

pub none_steps : (old : Bool) (k : ℕ) (c : Contents) (text : List ℕ) → SpellsNone old text → IsStepText old k c text None
none_steps old k c text none = λ entry after spells applies. none entry spells

pub entry_steps : OneRecordForBytes → (old : Bool) (k : ℕ) (c : Contents) (text : List ℕ) (entry : Rec) (found : Option Walk) → SpellsRecord old entry text → option_map said_of found ≡ after_record old k entry c
    → IfSome found (λ walk. walk.work ≡ work_of entry c) → IsStepText old k c text found
entry_steps law old k c text entry None spells said work =
    λ other after also applies.
    let same : entry ≡ other = same_record law old entry other text spells also in
    let e : None ≡ Some after = said ∙ ap (λ r. after_record old k r c) same ∙ applies in absurd (cc)
entry_steps law old k c text entry (Some walk) spells said work = (entry, spells, sym said, work)

some_text : {a b : List ℕ} → Some a ≡ Some b → a ≡ b
some_text is = cc

-- the record's file holds these bytes
pub text_step : (old : Bool) (tree : Tree) (k : ℕ) (c : Contents) (text : List ℕ) (found : Option Walk) → k < 2 ^ 63 → text_of (get tree (record_path k)) ≡ Some text → IsStepText old k c text found → IsStep old tree k c found
text_step old tree k c text None small there is =
    λ after applies. is applies.entry after (subst (SpellsRecord old applies.entry) (some_text (sym applies.there ∙ there)) applies.spelled) applies.applies
text_step old tree k c text (Some walk) small there is = (record { text = text; entry = is.0; small = small; there = there; spelled = is.1; applies = is.2 }, is.3)

-- it is absent or too long
pub no_step : (old : Bool) (tree : Tree) (k : ℕ) (c : Contents) → IsText (get tree (record_path k)) None → IsStep old tree k c None
no_step old tree k c none = λ after applies.
    let long = none applies.text applies.there in
    let short = spelled_short old applies.entry applies.text applies.spelled in
    omega (arith, long, short)

-- ---- from number to number

pub turn_on : (old : Bool) (tree : Tree) (k : ℕ) (before after : Walk) → IsTurn old tree k before (turn.On after) → (w : Walked) → IsWalked old tree (k + 1) after.kept after.work w → IsWalked old tree k before.kept before.work w
turn_on old tree k before after is (walked.Bad number) more = reading.one_more is.0 is.1.0 more
turn_on old tree k before after is (walked.Whole format next walk) more =
    (more.0, journal.one_more is.0 is.1.0 (subst (λ (work : List Write). CountsTo old tree (k + 1) after.kept work next walk.kept walk.work) is.1.1 more.1))

pub turn_end : (old : Bool) (tree : Tree) (k : ℕ) (before walk : Walk) → IsTurn old tree k before (turn.End walk) → IsWalked old tree k before.kept before.work (walked.Whole old k walk)
turn_end old tree k before walk is =
    (refl, subst (λ (w : Walk). CountsTo old tree k before.kept before.work k w.kept w.work) (sym is.1) (journal.no_more is.0))

pub turn_bad : (old : Bool) (tree : Tree) (k : ℕ) (before : Walk) → IsTurn old tree k before turn.Bad → IsWalked old tree k before.kept before.work (walked.Bad k)
turn_bad old tree k before is = reading.bad is.0 is.1

pub last_open : (old : Bool) (tree : Tree) (k : ℕ) (walk : Walk) → 2 ^ 63 ≤ k → IsTrue (is_open k tree) → IsWalked old tree k walk.kept walk.work (walked.Bad k)
last_open old tree k walk large opened = reading.bad opened (λ after applies. let small = applies.small in omega (arith, large, small))

pub last_shut : (old : Bool) (tree : Tree) (k : ℕ) (walk : Walk) → IsFalse (is_open k tree) → IsWalked old tree k walk.kept walk.work (walked.Whole old k walk)
last_shut old tree k walk shut = (refl, journal.no_more shut)

-- ---- the first record

old_head : (entry : Rec) (text : List ℕ) → old_bytes entry ≡ Some text → (slice_index_or text 7 0 == 49) ≡ true
old_head (Install pkg opam files) text is = ap (λ (bytes : List ℕ). slice_index_or bytes 7 0 == 49) (some_text (sym is))
old_head (PutBack pkg opam files) text is = absurd (cc)
old_head (Remove pkg None) text is = ap (λ (bytes : List ℕ). slice_index_or bytes 7 0 == 49) (some_text (sym is))
old_head (Remove pkg (Some kept)) text is = absurd (cc)
old_head (Begin roots target removals) text is = absurd (cc)
old_head End text is = absurd (cc)

-- no bytes spell records of both formats
pub not_old : (entry : Rec) (text : List ℕ) → IsSpelledBy entry text → (other : Rec) → IsOldSpelledBy other text → ⊥
not_old entry text spelled other old =
    absurd (let e : true ≡ false = sym (old_head other text old.bytes_are) ∙ ap (λ (bytes : List ℕ). slice_index_or bytes 7 0 == 49) spelled.bytes_are in cc)

pub first_entry : OneRecordForBytes → (text : List ℕ) (old : Bool) (entry : Rec) (found : Option Walk) (c : Contents) → c ≡ empty_contents → IsSpelled text old (Some entry) → option_map said_of found ≡ after_record old 1 entry c
    → IfSome found (λ walk. walk.work ≡ work_of entry c) → IsFirstText text (record { old = old; step = found })
first_entry law text old entry found c none is said work = record {
  format = is.format;
  step = subst (λ (x : Contents). IsStepText old 1 x text found) none (entry_steps law old 1 c text entry found is.entry said work);
}

-- where the bytes spell no record that is written
format_by : (text : List ℕ) (found : Option Rec) → IfSome found (λ entry. IsOldSpelledBy entry text) → IfNone found (SpellNoOldRecord text) → IsFormatOf text (is_some found)
format_by text None some none = none
format_by text (Some entry) some none = (entry, some)

entry_by : (text : List ℕ) (found : Option Rec) → IfSome found (λ entry. IsOldSpelledBy entry text) → SpellNoRecord text → IsEntry text (is_some found) found
entry_by text None some gone = gone
entry_by text (Some entry) some gone = some

pub spelled_old : (text given : List ℕ) (old : Bool) (found : Option Rec) → given ≡ text → old ≡ is_some found → SpellNoRecord text → IfSome found (λ entry. IsOldSpelledBy entry given) → IfNone found (SpellNoOldRecord given) → IsSpelled text old found
spelled_old text given old found same is gone some none =
    let here : IfSome found (λ entry. IsOldSpelledBy entry text) = subst (λ (t : List ℕ). IfSome found (λ entry. IsOldSpelledBy entry t)) same some in
    subst (λ (b : Bool). IsSpelled text b found) (sym is)
    (record { format = format_by text found here (subst (λ (t : List ℕ). IfNone found (SpellNoOldRecord t)) same none); entry = entry_by text found here gone })

pub spelled_new : (text : List ℕ) (entry : Rec) → IsSpelledBy entry text → IsSpelled text false (Some entry)
spelled_new text entry spells = record { format = not_old entry text spells; entry = spells }

pub first_none : (text : List ℕ) (old : Bool) → IsSpelled text old None → IsFirstText text (record { old = old; step = None })
first_none text old is = record { format = is.format; step = none_steps old 1 empty_contents text is.entry }

format_there : (tree : Tree) (text : List ℕ) (old : Bool) → text_of (get tree (record_path 1)) ≡ Some text → IsFormatOf text old → IsTrue (is_open 1 tree) → IsOld tree None old
format_there tree text true there is opened = record { text = text; entry = is.0; opened = opened; there = there; spelled = is.1 }
format_there tree text false there is opened = λ begins. is begins.entry (subst (IsOldSpelledBy begins.entry) (some_text (sym begins.there ∙ there)) begins.spelled)

pub first_there : (tree : Tree) (text : List ℕ) (first : First) → text_of (get tree (record_path 1)) ≡ Some text → IsFirstText text first → IsFirst tree first
first_there tree text first there is = record {
  format = format_there tree text first.old there is.format;
  step = text_step first.old tree 1 empty_contents text first.step (omega arith) there is.step;
}

pub first_absent : (tree : Tree) → IsText (get tree (record_path 1)) None → IsFirst tree (record { old = false; step = None })
first_absent tree none = record {
  format = λ opened begins. let long = none begins.text begins.there in let short = begins.spelled.short in omega (arith, long, short);
  step = no_step false tree 1 empty_contents none;
}

-- ---- the whole

shut_not_old : (tree : Tree) → IsFalse (is_open 1 tree) → IsOld tree None false
shut_not_old tree shut = λ begins. not_both 1 tree shut begins.opened

pub all_shut : (tree : Tree) (walk : Walk) → IsFalse (is_open 1 tree) → walk.kept ≡ empty_contents → walk.work ≡ [] → IsWalkedAfter tree None (walked.Whole false 1 walk)
all_shut tree walk shut kept work = (
  shut_not_old tree shut,
  subst (λ (w : List Write). CountsTo false tree 1 empty_contents [] 1 walk.kept w) (sym work)
      (subst (λ (c : Contents). CountsTo false tree 1 empty_contents [] 1 c []) (sym kept) (journal.no_more shut)),
)

pub all_bad : (tree : Tree) (first : First) → IsTrue (is_open 1 tree) → first.step ≡ None → IsFirst tree first → IsWalkedAfter tree None (walked.Bad 1)
all_bad tree first opened none is = (first.old, is.format opened, reading.bad opened (subst (IsStep first.old tree 1 empty_contents) none is.step))

pub all_on : (tree : Tree) (first : First) (walk : Walk) → IsTrue (is_open 1 tree) → first.step ≡ Some walk → IsFirst tree first → (w : Walked) → IsWalked first.old tree 2 walk.kept walk.work w → IsWalkedAfter tree None w
all_on tree first walk opened some is w more =
    by w (turn_on first.old tree 1 (record { kept = empty_contents; work = [] }) walk (opened, subst (IsStep first.old tree 1 empty_contents) some is.step) w more)
  where
    by : (w : Walked) → IsWalked first.old tree 1 empty_contents [] w → IsWalkedAfter tree None w
    by (walked.Bad number) counts = (first.old, is.format opened, counts)
    by (walked.Whole format next last) counts = (subst (IsOld tree None) (sym counts.0) (is.format opened), subst (λ (b : Bool). CountsTo b tree 1 empty_contents [] next last.kept last.work) (sym counts.0) counts.1)

pub after_slot : (tree : Tree) (found : FoundSlot) (start : Contents) (work : List Write) → start ≡ first_contents (Some found) → work ≡ [] → (w : Walked) → IsWalked found.old tree (found.slot.number + 1) start work w → IsWalkedAfter tree (Some found) w
after_slot tree found start work same none (walked.Bad number) counts =
    (found.old, refl, subst (λ (c : Contents). Counts found.old tree (found.slot.number + 1) c (BadAt (record_path number))) same counts)
after_slot tree found start work same none (walked.Whole format next last) counts =
    let here : CountsTo found.old tree (found.slot.number + 1) (first_contents (Some found)) [] next last.kept last.work =
    subst (λ (w : List Write). CountsTo found.old tree (found.slot.number + 1) (first_contents (Some found)) w next last.kept last.work) none
    (subst (λ (c : Contents). CountsTo found.old tree (found.slot.number + 1) c work next last.kept last.work) same counts.1) in
    (sym counts.0, subst (λ (b : Bool). CountsTo b tree (found.slot.number + 1) (first_contents (Some found)) [] next last.kept last.work) (sym counts.0) here)

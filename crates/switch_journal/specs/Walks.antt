-- What a walk over the records gives, step by step. This module is for private clauses. This project's own.
use Rattle.std.specs.Prelude.{◌≡◌, ◌<◌, ◌≤◌, ◌^◌, ℕ, List, [], length, Bool, true, false, IsTrue, IsFalse}
use Rattle.std.specs.declared.option.Option.{Option}
use Rattle.std.specs.declared.option.Option.TheVariants.{None, Some}
use Rattle.crash_disk.specs.Disks.{Kept, Tree}
use Rattle.crash_disk.specs.declared.batch.Write.{Write}
use Rattle.journal_text.specs.Records.{IsOldSpelledBy}
use Rattle.journal_text.specs.declared.record.Rec.{Rec}
use Rattle.journal_text.specs.declared.record.Rec.TheVariants.{Install, PutBack, Remove, Begin, End}
use Rattle.journal_text.specs.declared.record.TheConstants.{RECORD_LIMIT}
use Rattle.switch_journal.specs.Contents.{Contents}
use Rattle.switch_journal.specs.Journal.{CountsTo, paths_owned_by, work_of}
use Rattle.switch_journal.specs.Places.{is_open, record_path, text_of}
use Rattle.switch_journal.specs.Reading.{Applies, BadAt, Counts, FoundSlot, IsOld, SpellsRecord, after_record, empty_contents, first_contents, first_number}
use Rattle.switch_journal.specs.declared.walk.First.{First}
use Rattle.switch_journal.specs.declared.walk.Turn.{Turn}
use Rattle.switch_journal.specs.declared.walk.Turn.TheVariants as turn
use Rattle.switch_journal.specs.declared.walk.Walk.{Walk}
use Rattle.switch_journal.specs.declared.walk.Walked.{Walked}
use Rattle.switch_journal.specs.declared.walk.Walked.TheVariants as walked

-- the paths that a record takes away
abbrev pub taken_by : Rec → Contents → List (List ℕ)
taken_by (Install pkg opam files) c = []
taken_by (PutBack pkg opam files) c = []
taken_by (Remove pkg kept) c = paths_owned_by pkg c
taken_by (Begin roots target removals) c = []
taken_by End c = []

-- what a walk says so far
abbrev pub said_of : Walk → Contents
said_of walk = walk.kept

-- bytes that spell no record of this format
abbrev pub SpellsNone : Bool → List ℕ → Type 0
SpellsNone old text = (entry : Rec) → ¬ (SpellsRecord old entry text)

-- what a file holds that is not too long; none where it is absent or too long
abbrev pub IsText : Option Kept → Option (List ℕ) → Type 0
IsText file (Some text) = text_of file ≡ Some text
IsText file None = (text : List ℕ) → text_of file ≡ Some text → RECORD_LIMIT < length text

-- these bytes as record k
abbrev pub IsStepText : Bool → ℕ → Contents → List ℕ → Option Walk → Type 0
IsStepText old k c text None = (entry : Rec) (after : Contents) → SpellsRecord old entry text → ¬ (after_record old k entry c ≡ Some after)
IsStepText old k c text (Some walk) = (entry : Rec) × SpellsRecord old entry text × (after_record old k entry c ≡ Some walk.kept) × (walk.work ≡ work_of entry c)

-- record k: it cannot be applied, or this is what it gives
abbrev pub IsStep : Bool → Tree → ℕ → Contents → Option Walk → Type 0
IsStep old tree k c None = (after : Contents) → ¬ (Applies old tree k c after)
IsStep old tree k c (Some walk) = (applies : Applies old tree k c walk.kept) × (walk.work ≡ work_of applies.entry c)

-- number k of a walk
abbrev pub IsTurn : Bool → Tree → ℕ → Walk → Turn → Type 0
IsTurn old tree k before (turn.End walk) = IsFalse (is_open k tree) × (walk ≡ before)
IsTurn old tree k before turn.Bad = IsTrue (is_open k tree) × ((after : Contents) → ¬ (Applies old tree k before.kept after))
IsTurn old tree k before (turn.On walk) = IsTrue (is_open k tree) × IsStep old tree k before.kept (Some walk)

-- from record k on, with so much said and the work of the record before
abbrev pub IsWalked : Bool → Tree → ℕ → Contents → List Write → Walked → Type 0
IsWalked old tree k c work (walked.Bad number) = Counts old tree k c (BadAt (record_path number))
IsWalked old tree k c work (walked.Whole format next walk) = (format ≡ old) × CountsTo old tree k c work next walk.kept walk.work

-- a walk ends at a number of 2^63 at most
abbrev pub IsSmallWalk : Walked → Type 0
IsSmallWalk (walked.Bad number) = number ≤ 2 ^ 63
IsSmallWalk (walked.Whole old next walk) = next ≤ 2 ^ 63

-- the format of a journal without slots whose first record these bytes are
abbrev pub IsFormatOf : List ℕ → Bool → Type 0
IsFormatOf text true = (entry : Rec) × IsOldSpelledBy entry text
IsFormatOf text false = (entry : Rec) → ¬ (IsOldSpelledBy entry text)

-- the record that bytes spell in a format, if any
abbrev pub IsEntry : List ℕ → Bool → Option Rec → Type 0
IsEntry text old (Some entry) = SpellsRecord old entry text
IsEntry text old None = SpellsNone old text

-- that format, and the record that the bytes spell in it
pub record IsSpelled (text : List ℕ) (old : Bool) (found : Option Rec) : Type 0 where
  pub format : IsFormatOf text old
  pub entry : IsEntry text old found

-- the first record by its bytes
pub record IsFirstText (text : List ℕ) (first : First) : Type 0 where
  pub format : IsFormatOf text first.old
  pub step : IsStepText first.old 1 empty_contents text first.step

-- the first record of a journal without slots, where its gate is open
pub record IsFirst (tree : Tree) (first : First) : Type 0 where
  pub format : IsTrue (is_open 1 tree) → IsOld tree None first.old
  pub step : IsStep first.old tree 1 empty_contents first.step

-- the walk after the slot that counts
abbrev pub IsWalkedAfter : Tree → Option FoundSlot → Walked → Type 0
IsWalkedAfter tree found (walked.Bad number) = (old : Bool) × IsOld tree found old × Counts old tree (first_number found) (first_contents found) (BadAt (record_path number))
IsWalkedAfter tree found (walked.Whole old next walk) = IsOld tree found old × CountsTo old tree (first_number found) (first_contents found) [] next walk.kept walk.work

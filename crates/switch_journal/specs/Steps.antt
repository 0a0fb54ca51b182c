-- One record more, in the words of what a journal says: when it may follow, what its commit needs, and what a stop leaves of it. This
-- project's own.
use Rattle.std.specs.Prelude.{◌≡◌, ◌⊎◌, ℕ, ◌+◌, ◌<◌, ◌^◌, List, Bool, true, false, min, IsTrue, IsFalse}
use Rattle.std.specs.declared.option.Option.{Option}
use Rattle.std.specs.declared.option.Option.TheVariants.{Some}
use Rattle.crash_disk.specs.Disks.{State, Tree}
use Rattle.crash_disk.specs.Writes.{with_writes}
use Rattle.crash_disk.specs.declared.batch.Write.{Write}
use Rattle.journal_text.specs.Records.{IsSpelledBy}
use Rattle.journal_text.specs.declared.record.Rec.{Rec}
use Rattle.journal_text.specs.declared.record.Rec.TheVariants.{Install, PutBack, Remove, Begin, End}
use Rattle.switch_journal.specs.Applying.{applied}
use Rattle.switch_journal.specs.Commits.{ready_with}
use Rattle.switch_journal.specs.Contents.{Contents}
use Rattle.switch_journal.specs.Journal.{ComesTo, Head, StandsFor, is_due, work_of}
use Rattle.switch_journal.specs.Places.{record_path}
use Rattle.switch_journal.specs.declared.commits.Ready.{Ready}

-- the record is ready for its commit under this number: its bytes, its gate, and this work
pub record IsReady (number : ℕ) (entry : Rec) (work : List Write) (ready : Ready) : Type 0 where
  pub text : List ℕ
  pub spelled : IsSpelledBy entry text
  pub parts : ready ≡ ready_with number text work

-- the record begins a request
abbrev pub is_begin : Rec → Bool
is_begin (Install pkg opam files) = false
is_begin (PutBack pkg opam files) = false
is_begin (Remove pkg kept) = false
is_begin (Begin roots target removals) = true
is_begin End = false

-- a record that takes a switch from what is said of it to what is said then
pub record Step : Type 0 where
  pub before : Contents
  pub entry : Rec
  pub after : Contents
  -- the switch's own files before it
  pub files : Tree

-- the switch's own files once the record's work is done
abbrev pub files_after : Step → Tree
files_after step = with_writes (work_of step.entry step.before) step.files

-- the journal stands for the disk, the record was made ready for its next number, and it can be applied; a request begins only where
-- no slot is due
pub record CanCommit (head : Head) (step : Step) (ready : Ready) (told : Option State) : Type 0 where
  pub few : head.next < 2 ^ 63
  pub made : IsReady head.next step.entry (work_of step.entry step.before) ready
  pub applies : applied head.next (record_path head.next) step.entry step.before ≡ Some step.after
  pub begins : IsTrue (is_begin step.entry) → IsFalse (is_due head)
  pub stands : StandsFor head step.before step.files told

-- an opening makes of it what was there before the record, or what is there after it
abbrev pub IsAround : Step → Tree → Type 0
IsAround step image = ComesTo step.before step.files image ⊎ ComesTo step.after (files_after step) image

-- the number of the next record, which stands still at 2^63
abbrev pub one_more_number : ℕ → ℕ
one_more_number number = min (number + 1) (2 ^ 63)

-- the journal with one record more
abbrev pub with_one_more : Head → Head
with_one_more head = record {
  counts = head.counts;
  zero_is_open = head.zero_is_open;
  one_is_open = head.one_is_open;
  first = head.first;
  next = one_more_number head.next;
  old = head.old;
}

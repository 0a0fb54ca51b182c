-- What holds of every reading of files as a journal. This project's own.
use Rattle.std.specs.Prelude.{◌≡◌, ℕ, List, Bool, IsTrue}
use Rattle.std.specs.FinMap.{get}
use Rattle.crash_disk.specs.Disks.{Tree}
use Rattle.crash_disk.specs.declared.batch.Write.{Write}
use Rattle.switch_journal.specs.Contents.{Contents}
use Rattle.switch_journal.specs.Journal.{Head, IsReadAt}
use Rattle.switch_journal.specs.Places.{is_inside}
use Rattle.switch_journal.specs.Reading.{Outcome, Reads, Says}
use Rattle.switch_journal.specs.Texts.{HoldsFrom, slot_at}

-- files hold at most one list of counted records
abbrev pub OneListOfRecords : Type 0
OneListOfRecords = (first : ℕ) (those others : List (List ℕ)) (tree : Tree) → HoldsFrom first those tree → HoldsFrom first others tree → those ≡ others

-- two maps of files are the same below the folder that is not the switch's own
abbrev pub AgreeInside : Tree → Tree → Type 0
AgreeInside tree image = (q : List ℕ) → IsTrue (is_inside q) → get image q ≡ get tree q

-- such maps have the same counted records and the same slots
abbrev pub ReadByTheirInside : Type 0
ReadByTheirInside = (tree image : Tree) → AgreeInside tree image
    → ((first : ℕ) (texts : List (List ℕ)) → HoldsFrom first texts tree → HoldsFrom first texts image) × ((slot : Bool) → slot_at slot image ≡ slot_at slot tree)

-- files say one thing, or have one first bad file
abbrev pub OneOutcome : Type 0
OneOutcome = (tree : Tree) (one other : Outcome) → Reads tree one → Reads tree other → one ≡ other

-- each map of files says something, or has a first bad file
abbrev pub EachMapIsRead : Type 0
EachMapIsRead = (tree : Tree) → (outcome : Outcome) × Reads tree outcome

-- files that are the same there say the same
abbrev pub SayTheSameInside : Type 0
SayTheSameInside = (tree image : Tree) → AgreeInside tree image → (outcome : Outcome) → Reads tree outcome → Reads image outcome

-- files are read with one set of numbers, say one thing, and have one last record's work
abbrev pub OneReading : Type 0
OneReading = (tree : Tree) (head other : Head) (c said : Contents) (work last : List Write) → IsReadAt head c work tree → IsReadAt other said last tree → (head ≡ other) × (c ≡ said) × (work ≡ last)

-- files that are read so, with some numbers and some work
pub record IsReadSo (tree : Tree) (c : Contents) : Type 0 where
  pub head : Head
  pub work : List Write
  pub reads : IsReadAt head c work tree

-- what files say is what is read
pub record WhatIsReadIsSaid : Type 0 where
  pub says : (tree : Tree) (head : Head) (c : Contents) (work : List Write) → IsReadAt head c work tree → Reads tree (Says c)
  pub reads : (tree : Tree) (c : Contents) → Reads tree (Says c) → IsReadSo tree c

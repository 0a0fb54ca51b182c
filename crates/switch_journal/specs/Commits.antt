-- A record that is ready for its commit, and where a commit and the opening begin. This project's own.
use Rattle.std.specs.Prelude.{◌≡◌, ℕ, ◌+◌, ◌<◌, ◌^◌, List, [], ◌∷◌, ◌++◌, Bool, false, not, IsTrue}
use Rattle.std.specs.List.{list_all}
use Rattle.std.specs.declared.option.Option.{Option}
use Rattle.crash_disk.specs.Disks.{State}
use Rattle.crash_disk.specs.Writes.{path_of, paths_of}
use Rattle.crash_disk.specs.declared.batch.Write.{Write}
use Rattle.crash_disk.specs.declared.batch.Write.TheVariants.{Put, Remove}
use Rattle.switch_journal.specs.Places.{gate_path, gate_text, is_inside, record_path}
use Rattle.switch_journal.specs.Texts.{Journal, RestsAs, TellsAs, next_number}
use Rattle.switch_journal.specs.declared.commits.Ready.{Ready}

-- a write changes none of the files below the folder `.opam-switch`
abbrev pub is_outside : Write → Bool
is_outside write = not (is_inside (path_of write))

-- first the next gate is gone and the record stands, then its gate stands, then its work is done
abbrev pub entry_writes : ℕ → List ℕ → List Write
entry_writes number text = Remove (gate_path (number + 1)) ∷ Put (record_path number) text false ∷ []

-- the gate of the record stands
abbrev pub gate_writes : ℕ → List Write
gate_writes number = Put (gate_path number) gate_text false ∷ []

-- what the commit of a record writes, in three batches: its bytes, its gate and its work
abbrev pub ready_with : ℕ → List ℕ → List Write → Ready
ready_with number text writes = record { entry = entry_writes number text; gate = gate_writes number; writes = writes }

-- what a commit touches
abbrev pub paths_of_ready : Ready → List (List ℕ)
paths_of_ready ready = paths_of ready.entry ++ paths_of ready.gate ++ paths_of ready.writes

-- the record has the journal's next number, its work is outside of the journal, and the disk is at rest with this journal
pub record Begins (j : Journal) (text : List ℕ) (ready : Ready) (told : Option State) : Type 0 where
  pub few : next_number j < 2 ^ 63
  pub apart : IsTrue (list_all is_outside ready.writes)
  pub is : ready ≡ ready_with (next_number j) text ready.writes
  pub rest : RestsAs j told

-- the last record's work is outside of the journal, and the disk tells files that are this journal, some of them loose maybe
pub record BeginsAgain (j : Journal) (last : List Write) (told : Option State) : Type 0 where
  pub is : last ≡ j.last
  pub apart : IsTrue (list_all is_outside last)
  pub tells : TellsAs j told

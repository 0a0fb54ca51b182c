-- A slot that is written: what makes it ready, and what the journal is on the way and then. This project's own. The slot's gate is
-- shut first, then the slot stands, then its gate, and then the gates and records that it makes needless are gone.
use Rattle.std.specs.Prelude.{◌≡◌, ◌⊎◌, ℕ, zero, suc, ◌+◌, ◌<◌, ◌^◌, List, [], ◌∷◌, ◌++◌, Bool, true, false, length, is_some, if◌then◌else◌}
use Rattle.std.specs.declared.option.Option.{Option}
use Rattle.std.specs.declared.option.Option.TheVariants.{None, Some}
use Rattle.crash_disk.specs.Disks.{State, Tree}
use Rattle.crash_disk.specs.Writes.{paths_of}
use Rattle.crash_disk.specs.declared.batch.Write.{Write}
use Rattle.crash_disk.specs.declared.batch.Write.TheVariants.{Put, Remove}
use Rattle.switch_journal.specs.Places.{gate_path, gate_text, record_path, slot_gate, slot_path}
use Rattle.switch_journal.specs.Texts.{IsReadAs, Journal, RestsAs, next_number}
use Rattle.switch_journal.specs.declared.slots.ReadySlot.{ReadySlot}

-- the slots with one of them changed
abbrev pub slots_with : (Bool → Option (Option (List ℕ))) → Bool → Option (Option (List ℕ)) → Bool → Option (Option (List ℕ))
slots_with slots false now false = now
slots_with slots false now true = slots true
slots_with slots true now false = slots false
slots_with slots true now true = now

-- the same journal, with this slot's gate shut
abbrev pub shut_slot : Journal → Bool → Journal
shut_slot j slot = record { slots = slots_with j.slots slot None; first = j.first; records = j.records; last = j.last; files = j.files }

-- the slot has this text, and no record counts beyond it
abbrev pub slot_written : Journal → Bool → List ℕ → Journal
slot_written j slot text = record { slots = slots_with j.slots slot (Some (Some text)); first = next_number j; records = []; last = []; files = j.files }

-- what a stop leaves while the slot is written
abbrev pub IsSlotStage : Journal → Bool → List ℕ → Tree → Type 0
IsSlotStage j slot text image = IsReadAs j image ⊎ IsReadAs (shut_slot j slot) image ⊎ IsReadAs (slot_written j slot text) image

-- an open gate is removed; a shut one is left alone, since at a path that is removed a stop may leave any file
abbrev pub shut_writes : Bool → Bool → List Write
shut_writes slot is_open = if is_open then Remove (slot_gate slot) ∷ [] else []

-- the slot stands with this text
abbrev pub slot_writes : Bool → List ℕ → List Write
slot_writes slot text = Put (slot_path slot) text false ∷ []

-- the gate of the slot stands
abbrev pub slot_gate_writes : Bool → List Write
slot_gate_writes slot = Put (slot_gate slot) gate_text false ∷ []

-- so many gates and records from a number on are gone
abbrev pub old_writes : ℕ → ℕ → List Write
old_writes k zero = []
old_writes k (suc n) = Remove (gate_path k) ∷ Remove (record_path k) ∷ old_writes (k + 1) n

-- what the writing of a slot writes, in four batches: the gate that is shut, the slot, its gate, and what is old then
abbrev pub ready_slot : Bool → Bool → List ℕ → ℕ → ℕ → ReadySlot
ready_slot slot is_open text first count = record { shut = shut_writes slot is_open; slot = slot_writes slot text; gate = slot_gate_writes slot; old = old_writes first count }

-- what is touched as the slot is written
abbrev pub paths_of_slot : ReadySlot → List (List ℕ)
paths_of_slot ready = paths_of ready.shut ++ paths_of ready.slot ++ paths_of ready.gate ++ paths_of ready.old

-- the slot was made ready for this journal, and the disk is at rest with it
pub record SlotBegins (j : Journal) (slot : Bool) (text : List ℕ) (ready : ReadySlot) (told : Option State) : Type 0 where
  pub few : next_number j < 2 ^ 63
  pub is : ready ≡ ready_slot slot (is_some (j.slots slot)) text j.first (length j.records)
  pub rest : RestsAs j told

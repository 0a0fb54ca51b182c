use Rattle.std.proofs.Common.{false}
use Rattle.switch_journal.specs.Places.{slot_path}
use Rattle.switch_journal.specs.Reading.{first_slot_bad}
use Rattle.switch_journal.proofs.Openings.{first_bad}
use Rattle.switch_journal.proofs.opening.read_journal.Goals as goal

pub returns-in_ok-slot_path_of-in-Bad-clause-told : goal.returns-in_ok-slot_path_of-in-Bad-clause-told
returns-in_ok-slot_path_of-in-Bad-clause-told g c = λ s is.
    first_bad s.files c.in_ok-slot_path_of-in-Bad.field-0 (slot_path false) c.in_ok-slot_path_of-in-Bad.ensures (first_slot_bad (rw c.in-Bad.is at c.in_ok-find_slot.ensures.told s is))

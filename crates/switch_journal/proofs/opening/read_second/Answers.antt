use Rattle.std.proofs.Common.{true}
use Rattle.switch_journal.specs.Places.{slot_path}
use Rattle.switch_journal.specs.Reading.{second_slot_bad}
use Rattle.switch_journal.proofs.Openings.{first_bad}
use Rattle.switch_journal.proofs.opening.read_second.Goals as goal

pub returns-in_ok-slot_path_of-in-Bad-clause-told : goal.returns-in_ok-slot_path_of-in-Bad-clause-told
returns-in_ok-slot_path_of-in-Bad-clause-told g c = λ s is zero_is.
    first_bad s.files c.in_ok-slot_path_of-in-Bad.field-0 (slot_path true) c.in_ok-slot_path_of-in-Bad.ensures (second_slot_bad zero_is (rw c.in-Bad.is at c.in_ok-find_slot.ensures.told s is))

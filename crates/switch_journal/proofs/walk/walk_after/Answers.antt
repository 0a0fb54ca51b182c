use Rattle.std.proofs.Common.{◌∙◌, IfOk, Option, subst, sym}
use Rattle.std.specs.Option.{option_map}
use Rattle.switch_journal.specs.Found.{found_of}
use Rattle.switch_journal.specs.Walks.{IsWalkedAfter}
use Rattle.switch_journal.specs.declared.open_slot.OpenSlot.{OpenSlot}
use Rattle.switch_journal.proofs.Exits.{ok_then}
use Rattle.switch_journal.proofs.Walked.{after_slot}
use Rattle.switch_journal.specs.Places.{slot_path}
use Rattle.switch_journal.proofs.Formed.{slot_formed}
use Rattle.switch_journal.proofs.walk.walk_after.Goals as goal

pub returns-in_ok-kept-in-Some-clause-told : goal.returns-in_ok-kept-in-Some-clause-told
returns-in_ok-kept-in-Some-clause-told g c = λ s is.
    subst (λ (o : Option OpenSlot). IfOk c.walk_from.result (IsWalkedAfter s.files (option_map found_of o))) (sym c.in-Some.is)
    (ok_then c.walk_from.result (c.walk_from.ensures.told s is)
    (λ w more. after_slot s.files (found_of c.in-Some.found) c.start_with.result.kept c.start_with.result.work (c.start_with.ensures.kept ∙ c.in_ok-kept-in-Some.ensures) c.start_with.ensures.work w more))

pub walk_from-requires-clause-formed : goal.walk_from-requires-clause-formed
walk_from-requires-clause-formed g c =
    let fit = rw c.in-Some.is at c.requires in
    slot_formed c.in-Some.found.old (slot_path c.in-Some.found.place) c.in-Some.found.slot c.start_with.result.kept (c.start_with.ensures.kept ∙ c.in_ok-kept-in-Some.ensures) fit.ordered

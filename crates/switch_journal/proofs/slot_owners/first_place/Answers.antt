use Rattle.std.proofs.Common.{◌∙◌, sym}
use Rattle.switch_journal.proofs.SlotOwners.{place_is}
use Rattle.switch_journal.proofs.slot_owners.first_place.Goals as goal

pub returns-then-is_given : goal.returns-then-is_given
returns-then-is_given c = place_is c.args.given.now c.args.owner.now c.loop-at.at c.index-given-at.result c.loop-at-test.true c.index-given-at.is (sym c.is_given.ensures ∙ c.if-is_given.true)

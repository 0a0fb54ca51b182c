use Rattle.std.proofs.Common.{◌∙◌, sym}
use Rattle.switch_journal.proofs.SlotOwners.{place_is}
use Rattle.switch_journal.proofs.slot_owners.place_of.Goals as goal

pub returns-then-is_given : goal.returns-then-is_given
returns-then-is_given c = place_is c.args.given.now c.args.owner.now c.args.likely c.index-given-likely.result c.if-likely-given.true c.index-given-likely.is (sym c.is_given.ensures ∙ c.if-is_given.true)

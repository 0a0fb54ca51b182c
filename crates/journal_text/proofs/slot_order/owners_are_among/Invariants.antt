use Rattle.std.proofs.Common.{◌≡◌, drop}
use Rattle.std.specs.List.{list_all}
use Rattle.journal_text.specs.Slots.{has_owner}
use Rattle.journal_text.proofs.slot_order.owners_are_among.Given as goal

abbrev pub invariant-loop-item : goal.invariant-loop-item
invariant-loop-item l = list_all (has_owner l.count) l.owned ≡ list_all (has_owner l.count) (drop l.item-index l.owned)

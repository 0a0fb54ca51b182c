use Rattle.std.proofs.Common.{◌≡◌, drop}
use Rattle.std.specs.List.{list_all}
use Rattle.journal_text.specs.Slots.{is_among}
use Rattle.journal_text.proofs.slot_order.are_among.Given as goal

abbrev pub invariant-loop-root : goal.invariant-loop-root
invariant-loop-root l = list_all (is_among l.names) l.roots ≡ list_all (is_among l.names) (drop l.root-index l.roots)

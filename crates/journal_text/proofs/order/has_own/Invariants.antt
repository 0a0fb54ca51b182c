use Rattle.std.proofs.Common.{◌≡◌, drop}
use Rattle.std.specs.Prelude.{map}
use Rattle.std.specs.List.{list_any}
use Rattle.journal_text.specs.Parts.{is_own}
use Rattle.journal_text.proofs.order.has_own.Given as goal

abbrev pub invariant-loop-item : goal.invariant-loop-item
invariant-loop-item g l = list_any is_own (map g.T.Pathed.path l.list) ≡ list_any is_own (map g.T.Pathed.path (drop l.item-index l.list))

use Rattle.std.proofs.Common.{◌≡◌, ◌++◌, take}
use Rattle.std.specs.List.{All, flat_map}
use Rattle.journal_text.proofs.field.push_items.Given as goal

abbrev pub invariant-loop-item : goal.invariant-loop-item
invariant-loop-item g l = record {
  spelled : l.out.items ≡ l.initial.out.items ++ flat_map g.T.Field.bytes (take l.item-index l.items);
  valid : All g.T.Field.valid (take l.item-index l.items);
}

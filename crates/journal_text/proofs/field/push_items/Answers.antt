use Rattle.std.proofs.Common.{◌^◌}
use Rattle.journal_text.proofs.Lengths.{all_of}
use Rattle.journal_text.proofs.field.push_items.Goals as goal

pub push-requires : goal.push-requires
push-requires g c = rw c.item-item.is (all_of g.T.Field.bytes (2 ^ 32) c.args.items.now c.requires c.loop-item.item-index _ c.loop-item-test.true)

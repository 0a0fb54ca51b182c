use Rattle.opam_top.proofs.ItemPaths.{item_is_text}
use Rattle.opam_top.proofs.sources.text_of_item.Goals as goal

pub unreachable-requires : goal.unreachable-requires
unreachable-requires c = c.in-Err.ensures.cases.0 (item_is_text c.args.item.now c.requires)

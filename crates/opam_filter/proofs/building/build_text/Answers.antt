use Rattle.opam_filter.proofs.Utf8.{text_is_utf8}
use Rattle.opam_filter.proofs.building.build_text.Goals as goal

pub unreachable-requires : goal.unreachable-requires
unreachable-requires c = c.in_default.ensures.cases.0 (text_is_utf8 c.args.bytes.now c.requires)

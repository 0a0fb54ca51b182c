use Rattle.opam_names.proofs.Bytes.{name_is_text}
use Rattle.opam_names.proofs.names.Name.read.Goals as goal

pub unreachable-requires : goal.unreachable-requires
unreachable-requires c = c.in_default.ensures.cases.0 (name_is_text c.args.bytes.now (c.is_name.ensures.valid.0 c.if-not-is_name.false))

use Rattle.opam_names.proofs.Bytes.{version_is_text}
use Rattle.opam_names.proofs.versions.Version.read.Goals as goal

pub unreachable-requires : goal.unreachable-requires
unreachable-requires c = c.in_default.ensures.cases.0 (version_is_text c.args.bytes.now (c.is_version.ensures.valid.0 c.if-not-is_version.false))

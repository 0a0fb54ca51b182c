use Rattle.std.proofs.Common.{◌∙◌}
use Rattle.opam_names.proofs.Tests.{utf8_told}
use Rattle.opam_names.proofs.paths.is_text.Goals as goal

pub returns-clause-value : goal.returns-clause-value
returns-clause-value c = c.is_ok.ensures.value ∙ utf8_told _ _ c.from_utf8.result c.args.bytes.now c.from_utf8.ensures.cases

use Rattle.std.proofs.Common.{◌∙◌}
use Rattle.opam_filter.proofs.Utf8.{utf8_told}
use Rattle.opam_filter.proofs.text_tests.is_utf8.Goals as goal

pub returns : goal.returns
returns c = c.is_ok.ensures.value ∙ utf8_told _ _ c.from_utf8.result c.args.bytes.now c.from_utf8.ensures.cases

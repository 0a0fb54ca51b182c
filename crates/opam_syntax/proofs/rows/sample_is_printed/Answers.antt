use Rattle.opam_syntax.proofs.Printed.{sample_is_printed}
use Rattle.opam_syntax.proofs.rows.sample_is_printed.Goals as goal

pub returns : goal.returns
returns c = sample_is_printed

use Rattle.opam_syntax.proofs.Printed.{values_are_printed}
use Rattle.opam_syntax.proofs.rows.values_are_printed.Goals as goal

pub returns : goal.returns
returns c = values_are_printed

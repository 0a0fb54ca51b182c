use Rattle.syntax_faults.proofs.Worked.{rows_are_told}
use Rattle.syntax_faults.proofs.laws.rows_are_told.Goals as goal

pub returns : goal.returns
returns c = rows_are_told

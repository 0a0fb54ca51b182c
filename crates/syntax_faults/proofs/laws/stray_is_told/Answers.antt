use Rattle.syntax_faults.proofs.Begun.{stray_is_told}
use Rattle.syntax_faults.proofs.laws.stray_is_told.Goals as goal

pub returns : goal.returns
returns c = stray_is_told

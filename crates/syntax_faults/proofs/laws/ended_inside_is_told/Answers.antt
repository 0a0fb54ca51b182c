use Rattle.syntax_faults.proofs.Begun.{ended_inside_is_told}
use Rattle.syntax_faults.proofs.laws.ended_inside_is_told.Goals as goal

pub returns : goal.returns
returns c = ended_inside_is_told

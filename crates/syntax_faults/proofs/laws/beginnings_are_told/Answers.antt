use Rattle.syntax_faults.proofs.Begun.{beginnings_are_told}
use Rattle.syntax_faults.proofs.laws.beginnings_are_told.Goals as goal

pub returns : goal.returns
returns c = beginnings_are_told

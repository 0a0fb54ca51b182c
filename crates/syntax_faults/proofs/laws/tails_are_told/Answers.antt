use Rattle.syntax_faults.proofs.Begun.{tails_are_told}
use Rattle.syntax_faults.proofs.laws.tails_are_told.Goals as goal

pub returns : goal.returns
returns c = tails_are_told

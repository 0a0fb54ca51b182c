use Rattle.syntax_faults.proofs.Begun.{stray_tokens_are_told}
use Rattle.syntax_faults.proofs.laws.stray_tokens_are_told.Goals as goal

pub returns : goal.returns
returns c = stray_tokens_are_told

use Rattle.generated_set.proofs.Few.{needs_few}
use Rattle.generated_set.proofs.drawing.needs_are_few.Goals as goal

pub returns : goal.returns
returns c = needs_few

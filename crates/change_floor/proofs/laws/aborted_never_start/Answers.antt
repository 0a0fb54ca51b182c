use Rattle.change_floor.proofs.Keeping.{aborted_never_start}
use Rattle.change_floor.proofs.laws.aborted_never_start.Goals as goal

pub returns : goal.returns
returns c = aborted_never_start

use Rattle.change_floor.proofs.Keeping.{events_are_calls}
use Rattle.change_floor.proofs.laws.events_are_calls.Goals as goal

pub returns : goal.returns
returns c = events_are_calls

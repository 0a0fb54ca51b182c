use Rattle.action_graph.proofs.PlanLaws.{same_is_done}
use Rattle.action_graph.proofs.laws.same_is_done.Goals as goal

pub returns : goal.returns
returns c = same_is_done

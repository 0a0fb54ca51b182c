use Rattle.action_graph.proofs.OrderLaws.{reached_is_least}
use Rattle.action_graph.proofs.laws.reached_is_least.Goals as goal

pub returns : goal.returns
returns c = reached_is_least

use Rattle.action_graph.proofs.OrderLaws.{orders_keep_needs}
use Rattle.action_graph.proofs.laws.needs_come_first.Goals as goal

pub returns : goal.returns
returns c = orders_keep_needs

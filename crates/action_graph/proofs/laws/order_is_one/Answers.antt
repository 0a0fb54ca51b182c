use Rattle.action_graph.proofs.OrderLaws.{one_order}
use Rattle.action_graph.proofs.laws.order_is_one.Goals as goal

pub returns : goal.returns
returns c = one_order

use Rattle.action_graph.proofs.PlanLaws.{plans_keep_order}
use Rattle.action_graph.proofs.laws.plans_keep_order.Goals as goal

pub returns : goal.returns
returns c = plans_keep_order

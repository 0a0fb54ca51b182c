use Rattle.action_graph.proofs.PlanLaws.{one_plan}
use Rattle.action_graph.proofs.laws.plan_is_one.Goals as goal

pub returns : goal.returns
returns c = one_plan

use Rattle.action_graph.proofs.Fitness.{plans_are_fit}
use Rattle.action_graph.proofs.laws.plans_are_fit.Goals as goal

pub returns : goal.returns
returns c = plans_are_fit

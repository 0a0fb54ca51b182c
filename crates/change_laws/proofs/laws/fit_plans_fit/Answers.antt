use Rattle.change_laws.proofs.FitPlans.{fit_plans}
use Rattle.change_laws.proofs.laws.fit_plans_fit.Goals as goal

pub returns : goal.returns
returns c = fit_plans

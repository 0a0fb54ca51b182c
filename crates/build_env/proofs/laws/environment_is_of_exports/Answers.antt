use Rattle.build_env.proofs.JobsSame.{environment_is_of_exports}
use Rattle.build_env.proofs.laws.environment_is_of_exports.Goals as goal

pub returns : goal.returns
returns c = environment_is_of_exports c.asked_is_enough.ensures c.scopes_are_enough.ensures c.names_rise.ensures

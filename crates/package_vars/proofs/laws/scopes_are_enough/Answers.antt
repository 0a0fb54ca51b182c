use Rattle.package_vars.proofs.ScopeLaw.{scopes_are_enough}
use Rattle.package_vars.proofs.laws.scopes_are_enough.Goals as goal

pub returns : goal.returns
returns c = scopes_are_enough

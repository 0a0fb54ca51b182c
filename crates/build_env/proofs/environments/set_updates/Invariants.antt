use Rattle.std.proofs.Common.{◌≡◌, drop}
use Rattle.build_env.specs.Environments.{with_updates}
use Rattle.build_env.proofs.environments.set_updates.Given as goal

-- the environment so far, and then the updates that are left
abbrev pub invariant-loop-update : goal.invariant-loop-update
invariant-loop-update l = with_updates l.vars l.env.entries (drop l.update-index l.updates) ≡ with_updates l.vars l.initial.env.entries l.updates

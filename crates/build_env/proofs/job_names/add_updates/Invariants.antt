use Rattle.std.proofs.Common.{◌≡◌, ◌++◌, take}
use Rattle.std.specs.List.{flat_map}
use Rattle.build_env.specs.JobNames.{asked_by_update}
use Rattle.build_env.proofs.job_names.add_updates.Given as goal

-- the names so far
abbrev pub invariant-loop-update : goal.invariant-loop-update
invariant-loop-update l = l.found ≡ l.initial.found ++ flat_map asked_by_update (take l.update-index l.updates)

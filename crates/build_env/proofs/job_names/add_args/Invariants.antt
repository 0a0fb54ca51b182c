use Rattle.std.proofs.Common.{◌≡◌, ◌++◌, take}
use Rattle.std.specs.List.{flat_map}
use Rattle.build_env.specs.JobNames.{asked_by_arg}
use Rattle.build_env.proofs.job_names.add_args.Given as goal

-- the names so far
abbrev pub invariant-loop-arg : goal.invariant-loop-arg
invariant-loop-arg l = l.found ≡ l.initial.found ++ flat_map asked_by_arg (take l.arg-index l.args)

use Rattle.std.proofs.Common.{◌≡◌, ◌++◌, take}
use Rattle.std.specs.List.{flat_map}
use Rattle.build_env.specs.JobNames.{asked_by_command}
use Rattle.build_env.proofs.job_names.add_commands.Given as goal

-- the names so far
abbrev pub invariant-loop-command : goal.invariant-loop-command
invariant-loop-command l = l.found ≡ l.initial.found ++ flat_map asked_by_command (take l.command-index l.commands)

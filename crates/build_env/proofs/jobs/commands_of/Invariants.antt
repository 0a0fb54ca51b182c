use Rattle.std.proofs.Common.{◌≡◌, ◌++◌, drop}
use Rattle.build_env.specs.Jobs.{job_commands}
use Rattle.build_env.proofs.jobs.commands_of.Given as goal

-- the commands so far, and then those that are left
abbrev pub invariant-loop-command : goal.invariant-loop-command
invariant-loop-command l = l.made ++ job_commands l.vars (drop l.command-index l.commands) ≡ job_commands l.vars l.commands

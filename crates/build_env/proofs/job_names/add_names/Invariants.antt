use Rattle.std.proofs.Common.{◌≡◌, ◌++◌, take}
use Rattle.build_env.proofs.job_names.add_names.Given as goal

-- the names so far
abbrev pub invariant-loop-name : goal.invariant-loop-name
invariant-loop-name l = l.found ≡ l.initial.found ++ take l.name-index l.more

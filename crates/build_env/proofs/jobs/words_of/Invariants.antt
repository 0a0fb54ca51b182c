use Rattle.std.proofs.Common.{◌≡◌, ◌++◌, drop}
use Rattle.build_env.specs.Jobs.{words_of}
use Rattle.build_env.proofs.jobs.words_of.Given as goal

-- the words so far, and then those of the arguments that are left
abbrev pub invariant-loop-arg : goal.invariant-loop-arg
invariant-loop-arg l = l.words ++ words_of l.vars (drop l.arg-index l.args) ≡ words_of l.vars l.args

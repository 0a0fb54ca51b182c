use Rattle.std.proofs.Common.{◌≡◌, drop}
use Rattle.build_env.specs.Environments.{with_pairs}
use Rattle.build_env.proofs.environments.set_pairs.Given as goal

-- the environment so far, and then the pairs that are left
abbrev pub invariant-loop-name : goal.invariant-loop-name
invariant-loop-name l = with_pairs l.env.entries (drop l.name-index l.pairs) ≡ with_pairs l.initial.env.entries l.pairs

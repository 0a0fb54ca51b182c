use Rattle.std.proofs.Common.{◌≡◌, take}
use Rattle.package_vars.proofs.facts.copy_env.Given as goal

abbrev pub invariant-loop-name : goal.invariant-loop-name
invariant-loop-name l = l.copies ≡ take l.name-index l.env

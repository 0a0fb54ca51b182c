use Rattle.std.proofs.Common.{◌≡◌, ◌++◌, drop}
use Rattle.opam_package.specs.Wishes.{built_names}
use Rattle.opam_package.proofs.dependencies.built_names.Given as goal

-- the names so far, and then those of the needs that are left
abbrev pub invariant-loop-need : goal.invariant-loop-need
invariant-loop-need l = l.all.items ++ built_names (drop l.need-index l.needs) ≡ built_names l.needs

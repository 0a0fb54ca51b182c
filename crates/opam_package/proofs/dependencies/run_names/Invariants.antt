use Rattle.std.proofs.Common.{◌≡◌, ◌++◌, drop}
use Rattle.opam_package.specs.Wishes.{run_names}
use Rattle.opam_package.proofs.dependencies.run_names.Given as goal

-- the names so far, and then those of the needs that are left
abbrev pub invariant-loop-need : goal.invariant-loop-need
invariant-loop-need l = l.all.items ++ run_names (drop l.need-index l.needs) ≡ run_names l.needs

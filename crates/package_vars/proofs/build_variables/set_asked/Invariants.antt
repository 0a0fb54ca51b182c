use Rattle.std.proofs.Common.{◌≡◌, drop}
use Rattle.package_vars.specs.BuildVariables.{asked_rows}
use Rattle.package_vars.specs.Steps.{with_rows}
use Rattle.package_vars.proofs.build_variables.set_asked.Given as goal

-- the variables so far, and then the names that are left
abbrev pub invariant-loop-name : goal.invariant-loop-name
invariant-loop-name l = with_rows l.vars (asked_rows (drop l.name-index l.asked)) ≡ with_rows l.initial.vars (asked_rows l.asked)

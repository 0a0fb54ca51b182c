use Rattle.std.proofs.Common.{◌≡◌, drop}
use Rattle.package_vars.specs.BuildVariables.{view_rows}
use Rattle.package_vars.specs.Steps.{with_rows}
use Rattle.package_vars.proofs.build_variables.set_view.Given as goal

-- the variables so far, and then the packages that are left
abbrev pub invariant-loop-pkg : goal.invariant-loop-pkg
invariant-loop-pkg l = with_rows l.vars (view_rows l.prefix l.built (drop l.pkg-index l.members)) ≡ with_rows l.initial.vars (view_rows l.prefix l.built l.members)

use Rattle.std.proofs.Common.{◌≡◌, drop}
use Rattle.package_vars.specs.BuildVariables.{global_rows}
use Rattle.package_vars.specs.Steps.{with_rows}
use Rattle.package_vars.proofs.build_variables.set_globals.Given as goal

-- the variables so far, and then the globals that are left
abbrev pub invariant-loop-name : goal.invariant-loop-name
invariant-loop-name l = with_rows l.vars (global_rows (drop l.name-index l.globals)) ≡ with_rows l.initial.vars (global_rows l.globals)

use Rattle.std.proofs.Common.{ap, ◌∙◌}
use Rattle.package_vars.specs.BuildVariables.{global_rows}
use Rattle.package_vars.specs.Steps.{with_rows}
use Rattle.package_vars.proofs.Tables.{from_none}
use Rattle.package_vars.proofs.build_variables.globals.Goals as goal

pub returns : goal.returns
returns c =
    from_none c.set_globals.new.vars (global_rows c.args.facts.now.globals)
    (c.in_ok-set_globals.ensures
    ∙ ap (λ values. with_rows values (global_rows c.as_slice.result.now)) c.empty-vars.ensures
    ∙ ap (λ globals. with_rows _ (global_rows globals)) c.as_slice.ensures)

use Rattle.package_vars.proofs.Tables.{all_parts}
use Rattle.package_vars.proofs.build_variables.vars_for.Goals as goal

pub returns : goal.returns
returns c =
    all_parts c.args.facts.now c.args.view.now c.args.pkg.now c.args.asked.now c.as_str-prefix.result.now c.as_slice.result.now
    c.in_ok-vars.vars c.set_own.new.vars c.set_folders.new.vars c.set_asked.new.vars c.set_member.new.vars c.set_view.new.vars
    c.as_str-prefix.ensures c.as_slice.ensures c.in_ok-vars.ensures c.in_ok-set_own.ensures c.in_ok-set_folders.ensures
    c.in_ok-set_asked.ensures c.in_ok-set_member.ensures c.in_ok-set_view.ensures

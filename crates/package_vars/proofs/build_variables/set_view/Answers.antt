use Rattle.std.proofs.Common.{true, ◌∙◌}
use Rattle.package_vars.specs.BuildVariables.{member_rows}
use Rattle.package_vars.proofs.Tables.{one_more}
use Rattle.package_vars.proofs.build_variables.set_view.Goals as goal

pub loop-pkg-preserved : goal.loop-pkg-preserved
loop-pkg-preserved c =
    one_more (member_rows c.args.prefix.now c.args.built.now true) c.loop-pkg.vars c.set_member.new.vars c.args.members.now c.loop-pkg.pkg-index c.pkg-item.result
    c.loop-pkg-test.true c.pkg-item.is c.in_ok-set_member.ensures
    ∙ c.loop-pkg.invariant

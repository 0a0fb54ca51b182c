use Rattle.std.proofs.Common.{sym, ◌∙◌}
use Rattle.package_vars.proofs.Tables.{member_also, member_alone}
use Rattle.package_vars.proofs.package_rows.set_member.Goals as goal

pub returns-in_ok-set_package-2 : goal.returns-in_ok-set_package-2
returns-in_ok-set_package-2 c =
    member_also c.args.prefix.now c.args.built.now c.args.installed c.args.pkg.now c.as_str.result.now c.args.vars.now c.set_package.new.vars c.set_package-then-eq.new.vars
    c.as_str.ensures.value (sym c.eq.ensures ∙ c.if-eq.true) c.in_ok-set_package.ensures c.in_ok-set_package-2.ensures

pub returns-else-eq : goal.returns-else-eq
returns-else-eq c =
    member_alone c.args.prefix.now c.args.built.now c.args.installed c.args.pkg.now c.as_str.result.now c.args.vars.now c.set_package.new.vars
    c.as_str.ensures.value (sym c.eq.ensures ∙ c.if-eq.false) c.in_ok-set_package.ensures

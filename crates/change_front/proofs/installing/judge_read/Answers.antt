use Rattle.std.proofs.Common.{arith, ap, ◌∙◌}
use Rattle.opam_package.specs.declared.package.Target.{Target}
use Rattle.lock_check.specs.Chased.{install_target, install_violations}
use Rattle.change_front.proofs.Fitting.{installed_few, target_few, target_read}
use Rattle.change_front.proofs.Judged.{judged_same, own_of}
use Rattle.change_front.proofs.installing.judge_read.Goals as goal

pub judge-requires-clause-small : goal.judge-requires-clause-small
judge-requires-clause-small c =
    let few = target_few c.args.chase c.args.installed.now c.texts_rise.ensures c.requires.installed c.finish.ensures.needed c.in_ok-target.target.members
    (ap (λ (t : Target). t.members) c.in_ok-target.ensures.target) c.in_ok-target.ensures.rises c.requires.few in
    let others = installed_few c.args.chase c.args.installed.now c.texts_rise.ensures c.requires.installed c.order_is_stable.ensures c.requires.differ c.requires.few in
    omega (arith, few, others)

pub returns-clause-judged : goal.returns-clause-judged
returns-clause-judged c =
    judged_same c.args.installed.now c.in_ok-target.target (install_target c.args.chase c.args.installed.now c.args.roots.now) c.in_ok-target.told
    (install_violations c.args.chase (install_target c.args.chase c.args.installed.now c.args.roots.now)) c.judge.result c.in_ok-target.ensures.target
    (c.in_ok-target.ensures.violations ∙ ap (install_violations c.args.chase) c.in_ok-target.ensures.target) c.judge.ensures

pub returns-clause-own : goal.returns-clause-own
returns-clause-own c =
    let few = target_few c.args.chase c.args.installed.now c.texts_rise.ensures c.requires.installed c.finish.ensures.needed c.in_ok-target.target.members
    (ap (λ (t : Target). t.members) c.in_ok-target.ensures.target) c.in_ok-target.ensures.rises c.requires.few in
    own_of c.args.installed.now c.args.globals.now c.in_ok-target.target c.in_ok-target.told c.judge.result c.in_ok-target.ensures.rises
    (target_read c.args.chase c.args.installed.now c.args.globals.now c.args.roots.now c.in_ok-target.target c.in_ok-target.ensures.target c.requires.read) few c.judge.ensures

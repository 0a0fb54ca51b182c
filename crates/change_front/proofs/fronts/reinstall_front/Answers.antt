use Rattle.change_front.specs.Fronts.{IsReinstall}
use Rattle.change_front.proofs.Fronted.{answers_part, never_failed, part_told}
use Rattle.change_front.proofs.fronts.reinstall_front.Goals as goal

pub returns-clause-host : goal.returns-clause-host
returns-clause-host c = never_failed c.reinstall.result c.answered.result c.answered.ensures

pub returns-clause-told : goal.returns-clause-told
returns-clause-told c = answers_part c.reinstall.result c.answered.result c.answered.ensures (IsReinstall c.args.names.now c.args.installed.now c.args.roots.now) c.reinstall.ensures.judged

pub returns-clause-plan : goal.returns-clause-plan
returns-clause-plan c = part_told c.reinstall.result c.answered.result c.answered.ensures c.args.installed.now _ (λ planned is. is.plan) c.reinstall.ensures.own

pub returns-clause-rises : goal.returns-clause-rises
returns-clause-rises c = part_told c.reinstall.result c.answered.result c.answered.ensures c.args.installed.now _ (λ planned is. is.rises) c.reinstall.ensures.own

pub returns-clause-among : goal.returns-clause-among
returns-clause-among c = part_told c.reinstall.result c.answered.result c.answered.ensures c.args.installed.now _ (λ planned is. is.among) c.reinstall.ensures.own

pub returns-clause-few : goal.returns-clause-few
returns-clause-few c = part_told c.reinstall.result c.answered.result c.answered.ensures c.args.installed.now _ (λ planned is. is.few) c.reinstall.ensures.own

pub returns-clause-short : goal.returns-clause-short
returns-clause-short c = part_told c.reinstall.result c.answered.result c.answered.ensures c.args.installed.now _ (λ planned is. is.short) c.reinstall.ensures.own

use Rattle.change_front.specs.Fronts.{IsRemove}
use Rattle.change_front.proofs.Fronted.{answers_part, never_failed, part_told}
use Rattle.change_front.proofs.fronts.remove_front.Goals as goal

pub returns-clause-host : goal.returns-clause-host
returns-clause-host c = never_failed c.remove.result c.answered.result c.answered.ensures

pub returns-clause-told : goal.returns-clause-told
returns-clause-told c = answers_part c.remove.result c.answered.result c.answered.ensures (IsRemove c.args.names.now c.args.installed.now c.args.roots.now) c.remove.ensures.judged

pub returns-clause-plan : goal.returns-clause-plan
returns-clause-plan c = part_told c.remove.result c.answered.result c.answered.ensures c.args.installed.now _ (λ planned is. is.plan) c.remove.ensures.own

pub returns-clause-rises : goal.returns-clause-rises
returns-clause-rises c = part_told c.remove.result c.answered.result c.answered.ensures c.args.installed.now _ (λ planned is. is.rises) c.remove.ensures.own

pub returns-clause-among : goal.returns-clause-among
returns-clause-among c = part_told c.remove.result c.answered.result c.answered.ensures c.args.installed.now _ (λ planned is. is.among) c.remove.ensures.own

pub returns-clause-few : goal.returns-clause-few
returns-clause-few c = part_told c.remove.result c.answered.result c.answered.ensures c.args.installed.now _ (λ planned is. is.few) c.remove.ensures.own

pub returns-clause-short : goal.returns-clause-short
returns-clause-short c = part_told c.remove.result c.answered.result c.answered.ensures c.args.installed.now _ (λ planned is. is.short) c.remove.ensures.own

use Rattle.std.proofs.Common.{arith, below_more, sym, ◌∙◌}
use Rattle.std.proofs.lemmas.List.{get_or-map}
use Rattle.action_graph.specs.declared.plan.Step.{Step}
use Rattle.package_rows.proofs.floors.stands_before.Goals as goal

pub loop-at-preserved : goal.loop-at-preserved
loop-at-preserved c =
    let e = get_or-map (λ (step : Step). step.member) c.args.installs.now c.loop-at.at c.index-installs-at.result 0 (omega arith) in
    below_more _ _ c.loop-at.invariant (λ same. c.if-installs-at.false (sym e ∙ same))

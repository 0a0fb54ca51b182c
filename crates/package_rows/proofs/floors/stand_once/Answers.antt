use Rattle.std.proofs.Common.{◌≡◌, ap, arith, get_or, inl, inr, ◌∙◌}
use Rattle.std.proofs.lemmas.Bool.{cases_lt}
use Rattle.std.proofs.lemmas.List.{get_or-map}
use Rattle.action_graph.specs.declared.plan.Step.{Step}
use Rattle.change_floor.specs.FloorLaws.{install_members}
use Rattle.package_rows.proofs.floors.stand_once.Goals as goal

pub loop-at-preserved : goal.loop-at-preserved
loop-at-preserved c = λ i j less below same. elim (cases_lt j c.loop-at.at) [
  | inl before ↦ c.loop-at.invariant i j less before same
  | inr past ↦
      (let here : j ≡ c.loop-at.at = omega (arith, below, past) in
      let e = get_or-map (λ (step : Step). step.member) c.args.installs.now c.loop-at.at c.index-installs-at.result 0 (omega arith) in
      c.stands_before.ensures c.if-stands_before.false i (omega (arith, less, here)) (same ∙ ap (λ k. get_or (install_members c.args.installs.now) k 0) here ∙ e))
]

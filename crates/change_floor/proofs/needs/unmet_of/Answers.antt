use Rattle.std.proofs.Common.{◌+◌, ℕ, Bool, ap, not, sym, ◌∙◌}
use Rattle.std.proofs.lemmas.List.Sums.{count_by_more_yes, count_by_more_no}
use Rattle.change_floor.specs.Floors.{has_installed}
use Rattle.change_floor.proofs.needs.unmet_of.Goals as goal
use Rattle.change_floor.proofs.needs.unmet_of.Goals.{then-not-is_installed, else-not-is_installed}

pub loop-need-preserved : goal.loop-need-preserved
loop-need-preserved c =
    let p : ℕ → Bool = λ need. not (has_installed c.args.plan.now c.args.decided.now need) in
    elim c.if-not-is_installed.branch [
      | then-not-is_installed w ↦
          w.count-is ∙ ap (λ n. n + 1) c.loop-need.invariant
          ∙ sym (count_by_more_yes p c.args.needs.now c.loop-need.need-index 0 c.loop-need-test.true (ap not (sym c.is_installed.ensures ∙ w.if-not-is_installed.true)))
      | else-not-is_installed w ↦
          w.count-is ∙ c.loop-need.invariant
          ∙ sym (count_by_more_no p c.args.needs.now c.loop-need.need-index 0 c.loop-need-test.true (ap not (sym c.is_installed.ensures ∙ w.if-not-is_installed.false)))
    ]

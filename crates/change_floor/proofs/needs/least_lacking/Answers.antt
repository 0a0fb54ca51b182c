use Rattle.std.proofs.Common.{ℕ, Bool, ap, not, sym, ◌∙◌}
use Rattle.std.specs.declared.option.Option.TheVariants.{Some}
use Rattle.change_floor.specs.Floors.{has_installed}
use Rattle.change_floor.proofs.Lacking.{lacks_all, lacks_more, lacks_same}
use Rattle.change_floor.proofs.needs.least_lacking.Goals as goal
use Rattle.change_floor.proofs.needs.least_lacking.Goals.{then-not-is_installed, else-not-is_installed}

pub loop-need-preserved : goal.loop-need-preserved
loop-need-preserved c =
    let p : ℕ → Bool = λ need. not (has_installed c.args.plan.now c.args.decided.now need) in
    elim c.if-not-is_installed.branch [
      | then-not-is_installed w ↦
          lacks_more p c.args.needs.now c.loop-need.need-index c.loop-need.least c.if-not-is_installed.least c.loop-need-test.true (ap not (sym c.is_installed.ensures ∙ w.if-not-is_installed.true))
          (w.least-is ∙ ap (λ n. Some n) w.lesser.ensures) c.loop-need.invariant
      | else-not-is_installed w ↦
          lacks_same p c.args.needs.now c.loop-need.need-index c.loop-need.least c.if-not-is_installed.least c.loop-need-test.true (ap not (sym c.is_installed.ensures ∙ w.if-not-is_installed.false)) w.least-is c.loop-need.invariant
    ]

pub returns : goal.returns
returns c = lacks_all c.args.plan.now c.args.decided.now c.args.needs.now c.loop-need.need-index c.loop-need.least c.loop-need-test.false c.loop-need.invariant

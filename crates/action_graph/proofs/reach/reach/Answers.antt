use Rattle.std.proofs.Common.{rules, ℕ, get_or, arith, List, ◌∙◌, ap}
use Rattle.action_graph.specs.Gathering.{gathered_marks}
use Rattle.action_graph.proofs.Finding.{coheres_first}
use Rattle.action_graph.proofs.Spreading.{spreads_all, spreads_below, spreads_from, spreads_on}
use Rattle.action_graph.proofs.reach.reach.Goals as goal

pub add-requires-clause-coheres : goal.add-requires-clause-coheres
add-requires-clause-coheres g c =
    coheres_first c.args.count (gathered_marks c.none_gathered-found.result) c.none_gathered-found.result.places c.none_gathered-found.ensures.marks c.none_gathered-found.ensures.places

pub loop-done-init : goal.loop-done-init
loop-done-init g c = (
  c.in_ok-add.ensures.count ∙ c.none_gathered-found.ensures.count,
  spreads_from c.args.count (g.S.Steps.leads c.args.steps.now) c.args.starts.now (gathered_marks c.none_gathered-found.result) c.none_gathered-found.result.places _ _
      c.none_gathered-found.ensures.marks c.none_gathered-found.ensures.places c.in_ok-add.ensures.adds,
)

pub loop-done-smaller : goal.loop-done-smaller
loop-done-smaller g c =
    let most = spreads_below c.args.count (g.S.Steps.leads c.args.steps.now) c.args.starts.now c.loop-done.done (gathered_marks c.loop-done.found) c.loop-done.found.places c.loop-done.invariant.1 in
    omega (arith, most, c.loop-done-test.true)

pub loop-done-preserved : goal.loop-done-preserved
loop-done-preserved g c = (
  c.in_ok-add-2.ensures.count ∙ c.loop-done.invariant.0,
  spreads_on c.args.count (g.S.Steps.leads c.args.steps.now) c.args.starts.now c.loop-done.done _ c.as_slice-in-loop-done.result.now (gathered_marks c.loop-done.found) c.loop-done.found.places _ _
      c.loop-done.invariant.1 (search rules) (ap (λ (xs : List ℕ). get_or xs c.loop-done.done 0) c.as_slice.ensures)
      (c.as_slice-in-loop-done.ensures ∙ c.in_ok-next.ensures.value) c.in_ok-add-2.ensures.adds,
)

pub returns-clause-marks : goal.returns-clause-marks
returns-clause-marks g c =
    spreads_all c.args.count (g.S.Steps.leads c.args.steps.now) c.args.starts.now c.loop-done.done (gathered_marks c.loop-done.found) c.loop-done.found.places c.loop-done.invariant.1 (search rules)

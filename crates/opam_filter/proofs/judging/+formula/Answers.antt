use Rattle.std.proofs.Common.{sym, ap, ◌∙◌}
use Rattle.opam_filter.specs.Faults.{Judged, judged, earlier}
use Rattle.opam_filter.proofs.Judged.{one_more, judged_braced, formula_of_nodes}
use Rattle.opam_filter.proofs.judging.+formula.Goals as goal

pub formula_fault-returns-in-List : goal.formula_fault-returns-in-List
formula_fault-returns-in-List t c = c.formulas_fault.ensures ∙ sym (formula_of_nodes c.args.node.now c.in-List.nodes c.as_slice-in-List.result.now c.in-List.is c.as_slice-in-List.ensures)

pub formula_fault-returns-in-Braced : goal.formula_fault-returns-in-Braced
formula_fault-returns-in-Braced t c =
    c.earlier.ensures
    ∙ ap (λ one. earlier one c.all_braces_fault.result) c.name_fault.ensures
    ∙ ap (λ others. earlier (judged c.get.result.now).name others) c.all_braces_fault.ensures
    ∙ sym (ap (λ j. j.formula) (judged_braced c.args.node.now c.get.result.now c.in-Braced.before c.in-Braced.nodes c.as_slice-in-Braced.result.now c.in-Braced.is c.get.ensures c.as_slice-in-Braced.ensures))

pub formulas_fault-loop-node-preserved : goal.formulas_fault-loop-node-preserved
formulas_fault-loop-node-preserved t c = one_more (λ (j : Judged). j.formula) _ _ _ _ _ _ _ c.loop-node-test.true c.node-item.is c.formula_fault.ensures c.earlier-first.ensures c.loop-node.invariant

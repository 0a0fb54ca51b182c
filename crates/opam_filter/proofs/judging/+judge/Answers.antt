use Rattle.std.proofs.Common.{sym, ap, ◌∙◌}
use Rattle.opam_filter.specs.Faults.{Judged, judged, no_filter, earlier}
use Rattle.opam_filter.proofs.Judged.{judged_list, judged_group, judged_braced, one_more, several_filters, side_of_nodes}
use Rattle.opam_filter.proofs.judging.+judge.Goals as goal

pub filter_fault-returns-in-List : goal.filter_fault-returns-in-List
filter_fault-returns-in-List t c =
    c.no_filter.ensures ∙ ap (λ parts. no_filter parts c.args.node.now.span) c.filters_fault.ensures
    ∙ sym (ap (λ j. j.filter) (judged_list c.args.node.now c.in-List.nodes c.as_slice-in-List.result.now c.in-List.is c.as_slice-in-List.ensures))

pub filter_fault-returns-in_default : goal.filter_fault-returns-in_default
filter_fault-returns-in_default t c =
    c.no_filter-in_default.ensures ∙ ap (λ parts. no_filter parts c.args.node.now.span) c.filters_fault-in_default.ensures
    ∙ several_filters c.as_slice-in-Group.result.now c.args.node.now.span c.in_default.len_at_least
    ∙ sym (ap (λ j. j.filter) (judged_group c.args.node.now c.in-Group.nodes c.as_slice-in-Group.result.now c.in-Group.is c.as_slice-in-Group.ensures))

pub filter_fault-returns-in-Braced : goal.filter_fault-returns-in-Braced
filter_fault-returns-in-Braced t c =
    c.no_filter-in-Braced.ensures
    ∙ ap (λ parts. no_filter parts c.args.node.now.span) (c.earlier-parts.ensures
    ∙ ap (λ one. earlier one c.filters_fault-in-Braced.result) c.filter_fault-in-Braced.ensures
    ∙ ap (λ others. earlier (judged c.get.result.now).filter others) c.filters_fault-in-Braced.ensures)
    ∙ sym (ap (λ j. j.filter) (judged_braced c.args.node.now c.get.result.now c.in-Braced.before c.in-Braced.nodes c.as_slice-in-Braced.result.now c.in-Braced.is c.get.ensures c.as_slice-in-Braced.ensures))

pub side_fault-returns-in-Braced : goal.side_fault-returns-in-Braced
side_fault-returns-in-Braced t c =
    c.no_filter.ensures
    ∙ ap (λ parts. no_filter parts c.args.node.now.span) (c.earlier-parts.ensures
    ∙ ap (λ one. earlier one c.filters_fault.result) c.filter_fault.ensures
    ∙ ap (λ others. earlier (judged c.get.result.now).filter others) c.filters_fault.ensures)
    ∙ sym (ap (λ j. j.side) (judged_braced c.args.node.now c.get.result.now c.in-Braced.before c.in-Braced.nodes c.as_slice-in-Braced.result.now c.in-Braced.is c.get.ensures c.as_slice-in-Braced.ensures))

pub side_fault-returns-in-List : goal.side_fault-returns-in-List
side_fault-returns-in-List t c =
    c.no_filter-in-List.ensures ∙ ap (λ parts. no_filter parts c.args.node.now.span) c.filters_fault-in-List.ensures
    ∙ sym (side_of_nodes c.args.node.now c.in-List.nodes c.as_slice-in-List.result.now c.in-List.is c.as_slice-in-List.ensures)

pub filters_fault-loop-node-preserved : goal.filters_fault-loop-node-preserved
filters_fault-loop-node-preserved t c = one_more (λ (j : Judged). j.filter) _ _ _ _ _ _ _ c.loop-node-test.true c.node-item.is c.filter_fault.ensures c.earlier-first.ensures c.loop-node.invariant

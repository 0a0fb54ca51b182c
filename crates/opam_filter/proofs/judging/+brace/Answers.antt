use Rattle.std.proofs.Common.{sym, ap, ◌∙◌}
use Rattle.opam_filter.specs.Faults.{Judged, no_filter}
use Rattle.opam_filter.proofs.Judged.{one_more, braces_else, judged_group, several_in_braces}
use Rattle.opam_filter.proofs.judging.+brace.Goals as goal

pub braces_fault-returns-in_default-as_slice : goal.braces_fault-returns-in_default-as_slice
braces_fault-returns-in_default-as_slice t c =
    c.no_filter.ensures ∙ ap (λ parts. no_filter parts c.args.node.now.span) c.filters_fault.ensures
    ∙ several_in_braces c.as_slice.result.now c.args.node.now.span c.in_default-as_slice.len_at_least
    ∙ sym (ap (λ j. j.braces) (judged_group c.args.node.now c.in-Group.nodes c.as_slice.result.now c.in-Group.is c.as_slice.ensures))

pub braces_fault-returns-in_default : goal.braces_fault-returns-in_default
braces_fault-returns-in_default t c =
    c.filter_fault.ensures ∙ braces_else c.args.node.now c.in_default.not-Group c.in_default.not-Not c.in_default.not-Defined c.in_default.not-PreRel c.in_default.not-And c.in_default.not-Or

pub all_braces_fault-loop-node-preserved : goal.all_braces_fault-loop-node-preserved
all_braces_fault-loop-node-preserved t c = one_more (λ (j : Judged). j.braces) _ _ _ _ _ _ _ c.loop-node-test.true c.node-item.is c.braces_fault.ensures c.earlier-first.ensures c.loop-node.invariant

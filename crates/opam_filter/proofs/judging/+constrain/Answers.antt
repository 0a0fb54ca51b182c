use Rattle.std.proofs.Common.{sym, ◌∙◌}
use Rattle.opam_filter.proofs.Judged.{constraint_of_nodes}
use Rattle.opam_filter.proofs.judging.+constrain.Goals as goal

pub constrains-returns-in-List : goal.constrains-returns-in-List
constrains-returns-in-List t c = c.some_constrains-in-List.ensures ∙ sym (constraint_of_nodes c.args.node.now c.in-List.nodes c.as_slice-in-List.result.now c.in-List.is c.as_slice-in-List.ensures)

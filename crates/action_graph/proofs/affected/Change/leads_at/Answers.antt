use Rattle.std.proofs.Common.{get_or, ap, ◌∙◌, ◌++◌}
use Rattle.action_graph.proofs.Affecting.{leads_made}
use Rattle.action_graph.proofs.Placing.{edges_fit}
use Rattle.action_graph.proofs.affected.Change.leads_at.Goals as goal

pub nodes_of-requires-clause-within : goal.nodes_of-requires-clause-within
nodes_of-requires-clause-within c =
    edges_fit (get_or c.args.self.now.installed.now c.args.at c.index-self-at.result).package c.args.self.now.installed.now c.as_slice.result.now (c.as_slice.ensures ∙ c.in_ok-edges.ensures)

pub returns : goal.returns
returns c =
    leads_made c.args.self.now.installed.now c.args.self.now.members.now c.args.at c.index-self-at.result c.in_ok-edges.edges c.as_slice.result.now c.in_ok-nodes_of.field-0 c.in_ok-edges_called.field-0 c.from_vec.result
    c.requires.within c.index-self-at.is c.in_ok-edges.ensures c.as_slice.ensures c.in_ok-nodes_of.ensures c.in_ok-edges_called.ensures
    (c.from_vec.ensures ∙ (c.in_ok-append.ensures.items ∙ (ap (λ l. l ++ c.into_vec-more.result.items) c.into_vec-leads.ensures ∙ ap (λ l. c.in_ok-nodes_of.field-0 ++ l) c.into_vec-more.ensures)))

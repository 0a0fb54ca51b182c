use Rattle.action_graph.proofs.Linking.{in_order}
use Rattle.action_graph.proofs.links.put_in_order.Goals as goal

pub returns : goal.returns
returns c =
    in_order c.args.places.now.items c.sort_unstable.new.self.items c.dedup.new.self.items c.sort_unstable.ensures.permutation c.sort_unstable.ensures.sorted c.dedup.ensures.filtered

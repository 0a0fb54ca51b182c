use Rattle.action_graph.proofs.Linking.{edges_are}
use Rattle.action_graph.proofs.links.edge_places.Goals as goal

pub returns : goal.returns
returns g c =
    edges_are c.args.members.now c.args.dependent.now c.new-places.result.items c.note_running.new.places.items c.note_wishes.new.places.items c.put_in_order.new.places.items c.from_vec.result
    c.new-places.ensures.items c.in_ok-note_running.ensures c.in_ok-note_wishes.ensures c.put_in_order.ensures c.from_vec.ensures

use Rattle.action_graph.proofs.Linking.{needs_are_all}
use Rattle.action_graph.proofs.links.need_places.Goals as goal

pub returns : goal.returns
returns g c =
    needs_are_all c.args.members.now c.args.dependent.now c.new-places.result.items c.note_building.new.places.items c.note_wishes.new.places.items c.put_in_order.new.places.items c.from_vec.result
    c.new-places.ensures.items c.in_ok-note_building.ensures c.in_ok-note_wishes.ensures c.put_in_order.ensures c.from_vec.ensures

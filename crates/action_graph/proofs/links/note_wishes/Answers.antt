use Rattle.action_graph.proofs.Linking.{wish_noted, wishes_none}
use Rattle.action_graph.proofs.links.note_wishes.Goals as goal

pub loop-atom-init : goal.loop-atom-init
loop-atom-init g c = wishes_none c.args.members.now c.args.dependent.now c.args.places.now.items

pub loop-atom-preserved : goal.loop-atom-preserved
loop-atom-preserved g c =
    wish_noted c.args.members.now c.args.dependent.now c.args.dependent.now.depopts c.as_slice-atom-items.result.now c.loop-atom.atom-index c.atom-item.result c.args.places.now.items c.loop-atom.places.items c.note_wish.new.places.items
    c.as_slice-atom-items.ensures c.loop-atom.invariant c.loop-atom-test.true c.atom-item.is c.in_ok-note_wish.ensures

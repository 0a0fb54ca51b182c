use Rattle.action_graph.proofs.Linking.{name_noted, names_none}
use Rattle.action_graph.proofs.links.note_names.Goals as goal

pub loop-name-init : goal.loop-name-init
loop-name-init g c = names_none c.args.members.now c.args.dependent.now c.args.places.now.items

pub loop-name-preserved : goal.loop-name-preserved
loop-name-preserved g c =
    name_noted c.args.members.now c.args.dependent.now c.args.names.now c.loop-name.name-index c.name-item.result c.args.places.now.items c.loop-name.places.items c.note_name.new.places.items
    c.loop-name.invariant c.loop-name-test.true c.name-item.is c.in_ok-note_name.ensures

use Rattle.opam_filter.specs.Sets.{names}
use Rattle.action_graph.proofs.Linking.{two_gathered}
use Rattle.action_graph.proofs.links.note_need.Goals as goal

pub returns : goal.returns
returns g c =
    two_gathered c.args.members.now c.args.dependent.now (names c.args.need.now.runtime) (names c.args.need.now.building) c.args.places.now.items c.note_formula.new.places.items c.note_formula-2.new.places.items
    c.note_formula-2.result c.in_ok-note_formula.ensures c.note_formula-2.ensures

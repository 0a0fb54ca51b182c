use Rattle.std.proofs.Common.{◌++◌}
use Rattle.opam_filter.specs.Sets.{names}
use Rattle.opam_package.specs.declared.package.Need.{Need}
use Rattle.action_graph.proofs.Linking.{names_none, need_noted}
use Rattle.action_graph.proofs.links.note_building.Goals as goal

pub loop-need-init : goal.loop-need-init
loop-need-init g c = names_none c.args.members.now c.args.dependent.now c.args.places.now.items

pub loop-need-preserved : goal.loop-need-preserved
loop-need-preserved g c =
    need_noted c.args.members.now c.args.dependent.now (λ (need : Need). names need.runtime ++ names need.building) c.args.dependent.now.items c.as_slice-need-items.result.now c.loop-need.need-index c.need-item.result
    c.args.places.now.items c.loop-need.places.items c.note_need.new.places.items
    c.as_slice-need-items.ensures c.loop-need.invariant c.loop-need-test.true c.need-item.is c.in_ok-note_need.ensures

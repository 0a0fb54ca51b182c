use Rattle.std.proofs.Common.{take}
use Rattle.action_graph.specs.Looking.{Gathers, is_named_by, names_to_build}
use Rattle.action_graph.proofs.links.note_building.Given as goal

-- those of the needs so far
abbrev pub invariant-loop-need : goal.invariant-loop-need
invariant-loop-need g l = Gathers l.members (is_named_by l.dependent (names_to_build (take l.need-index l.dependent.items))) l.initial.places.items l.places.items

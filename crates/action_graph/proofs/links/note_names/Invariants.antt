use Rattle.std.proofs.Common.{take}
use Rattle.action_graph.specs.Looking.{Gathers, is_named_by}
use Rattle.action_graph.proofs.links.note_names.Given as goal

abbrev pub invariant-loop-name : goal.invariant-loop-name
invariant-loop-name g l = Gathers l.members (is_named_by l.dependent (take l.name-index l.names)) l.initial.places.items l.places.items

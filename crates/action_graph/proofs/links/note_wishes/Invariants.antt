use Rattle.std.proofs.Common.{take}
use Rattle.action_graph.specs.Looking.{Gathers, is_wished_by}
use Rattle.action_graph.proofs.links.note_wishes.Given as goal

abbrev pub invariant-loop-atom : goal.invariant-loop-atom
invariant-loop-atom g l = Gathers l.members (is_wished_by l.dependent (take l.atom-index l.dependent.depopts)) l.initial.places.items l.places.items

use Rattle.std.proofs.Common.{◌≡◌, take}
use Rattle.action_graph.specs.Links.{member_names}
use Rattle.action_graph.specs.Places.{at_places}
use Rattle.action_graph.proofs.installs.names_at.Given as goal

abbrev pub invariant-loop-place : goal.invariant-loop-place
invariant-loop-place l = l.names ≡ at_places (member_names l.members) (take l.place-index l.places)

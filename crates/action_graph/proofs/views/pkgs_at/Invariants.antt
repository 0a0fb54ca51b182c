use Rattle.std.proofs.Common.{◌≡◌, take}
use Rattle.action_graph.specs.Links.{member_pkgs}
use Rattle.action_graph.specs.Places.{at_places}
use Rattle.action_graph.proofs.views.pkgs_at.Given as goal

abbrev pub invariant-loop-place : goal.invariant-loop-place
invariant-loop-place l = l.pkgs ≡ at_places (member_pkgs l.members) (take l.place-index l.places)

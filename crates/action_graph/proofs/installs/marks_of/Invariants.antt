use Rattle.std.proofs.Common.{◌≡◌, take}
use Rattle.action_graph.specs.Listing.{named_marks}
use Rattle.action_graph.proofs.installs.marks_of.Given as goal

abbrev pub invariant-loop-member : goal.invariant-loop-member
invariant-loop-member l = l.marks ≡ named_marks l.names (take l.member-index l.members)

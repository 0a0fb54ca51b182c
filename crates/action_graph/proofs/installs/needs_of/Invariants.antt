use Rattle.std.proofs.Common.{◌≡◌, take}
use Rattle.action_graph.specs.Listing.{need_rows}
use Rattle.action_graph.proofs.installs.needs_of.Given as goal

abbrev pub invariant-loop-member : goal.invariant-loop-member
invariant-loop-member l = l.rows ≡ need_rows (take l.member-index l.members) l.members

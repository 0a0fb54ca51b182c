use Rattle.std.proofs.Common.{◌-◌, length}
use Rattle.action_graph.specs.Listing.{Lists}
use Rattle.action_graph.proofs.listing.list_in_order.Given as goal

abbrev pub invariant-loop-place : goal.invariant-loop-place
invariant-loop-place l = Lists l.needs l.wanted l.listed.marks l.listed.places l.waiting.ready l.waiting.cursors

abbrev pub decreases-loop-place : goal.decreases-loop-place
decreases-loop-place l = length l.wanted - length l.listed.places

use Rattle.std.proofs.Common.{take}
use Rattle.action_graph.specs.Listing.{Looks}
use Rattle.action_graph.proofs.listing.Waiting.look_at_all.Given as goal

abbrev pub invariant-loop-place : goal.invariant-loop-place
invariant-loop-place l = Looks l.needs l.wanted l.listed l.initial.self.ready l.self.ready (take l.place-index l.places) l.self.cursors

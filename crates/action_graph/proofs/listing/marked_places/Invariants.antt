use Rattle.std.proofs.Common.{◌<◌}
use Rattle.action_graph.specs.Places.{ArePlaces}
use Rattle.action_graph.specs.Listing.{IsMarked}
use Rattle.action_graph.proofs.listing.marked_places.Given as goal

abbrev pub invariant-loop-at : goal.invariant-loop-at
invariant-loop-at l = ArePlaces (λ place. (place < l.at) × IsMarked l.marks place) l.places

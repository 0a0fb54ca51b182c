use Rattle.std.proofs.Common.{take}
use Rattle.action_graph.specs.Listing.{AddsTo}
use Rattle.action_graph.proofs.rows.Rows.add_to.Given as goal

abbrev pub invariant-loop-at : goal.invariant-loop-at
invariant-loop-at l = AddsTo l.initial.self l.self (take l.at-index l.rows_of) l.place

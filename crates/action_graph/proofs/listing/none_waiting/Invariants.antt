use Rattle.std.proofs.Common.{◌≡◌, replicate}
use Rattle.action_graph.proofs.listing.none_waiting.Given as goal

abbrev pub invariant-loop-i : goal.invariant-loop-i
invariant-loop-i l = l.cursors ≡ replicate l._i 0

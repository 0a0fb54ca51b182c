use Rattle.std.proofs.Common.{reverse, vec_len}
use Rattle.syntax_trees.proofs.Assembled.{ReadsEntries}
use Rattle.syntax_trees.proofs.assembly.assemble.Given as goal

-- the items so far are in the map, and the others are left, the last first
abbrev pub invariant-loop-entry : goal.invariant-loop-entry
invariant-loop-entry l = ReadsEntries l.fn.entries.items l.items.entries l.places (reverse l.left.items)

abbrev pub decreases-loop-entry : goal.decreases-loop-entry
decreases-loop-entry l = vec_len l.left

use Rattle.std.proofs.Common.{length}
use Rattle.syntax_trees.specs.Read.{placed_tokens, read_entries}
use Rattle.syntax_trees.proofs.ParsedEntries.{EntriesSoFar}
use Rattle.syntax_trees.proofs.parsing.parse.Given as goal

-- what was parsed is the beginning of whatever entries there are
abbrev pub invariant-loop-alloc : goal.invariant-loop-alloc
invariant-loop-alloc l = EntriesSoFar (placed_tokens l.fn.tokens.items) (read_entries l.entries.items) l.left

abbrev pub decreases-loop-alloc : goal.decreases-loop-alloc
decreases-loop-alloc l = length l.left

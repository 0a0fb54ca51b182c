use Rattle.std.proofs.Common.{reverse, vec_len}
use Rattle.syntax_trees.proofs.Assembled.{ReadsFields}
use Rattle.syntax_trees.proofs.assembly.make_section.Given as goal

-- the fields so far are in the map, and the others are left, the last first
abbrev pub invariant-loop-field : goal.invariant-loop-field
invariant-loop-field l = ReadsFields l.fn.fields l.section.entries (reverse l.left.items)

abbrev pub decreases-loop-field : goal.decreases-loop-field
decreases-loop-field l = vec_len l.left

use Rattle.std.proofs.Common.{◌≤◌, length}
use Rattle.syntax_trees.specs.Read.{read_fields, read_places}
use Rattle.syntax_trees.proofs.ParsedFields.{FieldsSoFar}
use Rattle.syntax_trees.proofs.parsing.fields.Given as goal

-- what was parsed is the beginning of whatever fields there are
abbrev pub invariant-loop-to : goal.invariant-loop-to
invariant-loop-to l = record {
  so_far : FieldsSoFar l.fn.tokens (read_fields l.fields) (read_places l.fields) l.tokens;
  left : length l.tokens ≤ length l.fn.tokens;
}

abbrev pub decreases-loop-to : goal.decreases-loop-to
decreases-loop-to l = length l.tokens

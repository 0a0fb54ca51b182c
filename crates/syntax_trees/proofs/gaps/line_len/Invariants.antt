use Rattle.std.proofs.Common.{◌≡◌, drop}
use Rattle.syntax_trees.specs.Tokens.{after_line}
use Rattle.syntax_trees.proofs.gaps.line_len.Given as goal

-- no newline so far
abbrev pub invariant-loop-at : goal.invariant-loop-at
invariant-loop-at l = after_line l.bytes ≡ after_line (drop l.at l.bytes)

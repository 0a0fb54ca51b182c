use Rattle.std.proofs.Common.{◌≡◌, drop}
use Rattle.syntax_trees.specs.Tokens.{after_comment}
use Rattle.syntax_trees.proofs.gaps.comment_len.Given as goal

-- no end so far
abbrev pub invariant-loop-at : goal.invariant-loop-at
invariant-loop-at l = after_comment l.bytes ≡ after_comment (drop l.at l.bytes)

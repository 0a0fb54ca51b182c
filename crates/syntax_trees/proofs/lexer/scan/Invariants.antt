use Rattle.std.proofs.Common.{◌≤◌, ◌-◌, length}
use Rattle.syntax_trees.specs.Read.{placed_tokens}
use Rattle.syntax_trees.proofs.LexerRead.{ReadsTokens}
use Rattle.syntax_trees.proofs.lexer.scan.Given as goal

-- the tokens so far
abbrev pub invariant-loop-at : goal.invariant-loop-at
invariant-loop-at l = (l.at ≤ length l.bytes) × ReadsTokens l.bytes l.at (placed_tokens l.tokens.items)

abbrev pub decreases-loop-at : goal.decreases-loop-at
decreases-loop-at l = length l.bytes - l.at

use Rattle.syntax_trees.proofs.WordsRead.{Sought}
use Rattle.syntax_trees.proofs.words.scope_and_name.Given as goal

-- no colon so far
abbrev pub invariant-loop-at : goal.invariant-loop-at
invariant-loop-at l = Sought l.word l.at

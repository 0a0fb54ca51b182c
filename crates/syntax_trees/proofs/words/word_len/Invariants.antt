use Rattle.std.proofs.Common.{◌≡◌, ◌++◌, true, take, drop}
use Rattle.syntax_trees.specs.Words.{word_of}
use Rattle.syntax_trees.proofs.words.word_len.Given as goal

-- the word so far, and what goes on with it
abbrev pub invariant-loop-at : goal.invariant-loop-at
invariant-loop-at l = word_of true l.bytes ≡ take l.at l.bytes ++ word_of l.joining (drop l.at l.bytes)

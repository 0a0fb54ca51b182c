use Rattle.std.proofs.Common.{◌≡◌, drop}
use Rattle.syntax_trees.specs.Texts.{after_spaces}
use Rattle.syntax_trees.proofs.texts.spaces_len.Given as goal

-- all so far are spaces and tabs
abbrev pub invariant-loop-at : goal.invariant-loop-at
invariant-loop-at l = after_spaces l.bytes ≡ after_spaces (drop l.at l.bytes)

use Rattle.std.proofs.Common.{◌≤◌, ◌-◌, length}
use Rattle.syntax_trees.proofs.TextsRead.{ReadsText}
use Rattle.syntax_trees.proofs.texts.read_text.Given as goal

-- the text so far
abbrev pub invariant-loop-at : goal.invariant-loop-at
invariant-loop-at l = (l.at ≤ length l.bytes) × ReadsText l.long l.bytes l.at l.text.items

abbrev pub decreases-loop-at : goal.decreases-loop-at
decreases-loop-at l = length l.bytes - l.at

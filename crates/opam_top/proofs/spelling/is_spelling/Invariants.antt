use Rattle.std.proofs.Common.{◌≡◌, length}
use Rattle.opam_top.specs.Spellings.{is_spelled}
use Rattle.opam_top.proofs.spelling.is_spelling.Given as goal

abbrev pub invariant-loop-left : goal.invariant-loop-left
invariant-loop-left l = is_spelled l.left l.other ≡ is_spelled l.bytes l.text

abbrev pub decreases-loop-left : goal.decreases-loop-left
decreases-loop-left l = length l.left

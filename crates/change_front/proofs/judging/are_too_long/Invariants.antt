use Rattle.change_front.proofs.Judged.{IsLeft}
use Rattle.change_front.proofs.judging.are_too_long.Given as goal

-- the texts so far are taken off
abbrev pub invariant-loop-member : goal.invariant-loop-member
invariant-loop-member l = IsLeft l.members l.member-index l.left

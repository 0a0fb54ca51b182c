use Rattle.std.proofs.Common.{◌≤◌, ◌-◌, length}
use Rattle.syntax_places.specs.Controls.{control_of}
use Rattle.syntax_places.proofs.Leading.{Leads}
use Rattle.syntax_places.proofs.beginnings.tokens_follow.Given as goal

-- the tokens so far may follow one another
abbrev pub invariant-loop-at : goal.invariant-loop-at
invariant-loop-at l = (l.at ≤ length l.bytes) × Leads l.bytes l.at (control_of l.control)

abbrev pub decreases-loop-at : goal.decreases-loop-at
decreases-loop-at l = length l.bytes - l.at

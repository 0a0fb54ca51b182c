use Rattle.lock_check.specs.Passes.{IsPassing}
use Rattle.lock_check.proofs.removal.keep_met.Given as goal

abbrev pub invariant-loop-member : goal.invariant-loop-member
invariant-loop-member l = IsPassing l.members l.fn.set.items l.member-index l.pass l.set.items

use Rattle.std.proofs.Common.{subst, sym}
use Rattle.switch_journal.specs.Formed.{IsFormed}
use Rattle.switch_journal.proofs.Formed.{said_formed}
use Rattle.switch_journal.proofs.opening.as_opened.Goals as goal

pub returns-in_ok-kept-in-Whole-clause-formed : goal.returns-in_ok-kept-in-Whole-clause-formed
returns-in_ok-kept-in-Whole-clause-formed c = subst IsFormed (sym c.in_ok-kept-in-Whole.ensures) (said_formed c.in-Whole.old c.in-Whole.walk.kept (rw c.in-Whole.is at c.requires.formed))

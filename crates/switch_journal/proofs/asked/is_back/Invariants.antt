use Rattle.std.proofs.Common.{◌≡◌, drop}
use Rattle.std.specs.List.{list_any}
use Rattle.switch_journal.specs.Applying.{puts_back}
use Rattle.switch_journal.proofs.asked.is_back.Given as goal

abbrev pub invariant-loop-what : goal.invariant-loop-what
invariant-loop-what l = list_any (puts_back l.pkg) l.done ≡ list_any (puts_back l.pkg) (drop l.what-index l.done)

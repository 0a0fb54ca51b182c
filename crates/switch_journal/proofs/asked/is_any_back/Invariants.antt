use Rattle.std.proofs.Common.{◌≡◌, drop}
use Rattle.std.specs.List.{list_any}
use Rattle.switch_journal.specs.Applying.{is_put_back}
use Rattle.switch_journal.proofs.asked.is_any_back.Given as goal

abbrev pub invariant-loop-what : goal.invariant-loop-what
invariant-loop-what l = list_any is_put_back l.done ≡ list_any is_put_back (drop l.what-index l.done)

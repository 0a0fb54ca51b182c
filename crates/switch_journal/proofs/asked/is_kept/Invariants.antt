use Rattle.std.proofs.Common.{◌≡◌, drop}
use Rattle.std.specs.List.{list_any}
use Rattle.switch_journal.specs.Applying.{is_kept_removal}
use Rattle.switch_journal.proofs.asked.is_kept.Given as goal

abbrev pub invariant-loop-what : goal.invariant-loop-what
invariant-loop-what l = list_any (is_kept_removal l.pkg) l.done ≡ list_any (is_kept_removal l.pkg) (drop l.what-index l.done)

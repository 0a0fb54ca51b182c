use Rattle.std.proofs.Common.{◌≡◌, drop}
use Rattle.std.specs.List.{list_any}
use Rattle.switch_journal.specs.Applying.{is_back, up_to}
use Rattle.switch_journal.proofs.request.Open.is_before_all_back.Given as goal

abbrev pub invariant-loop-removal : goal.invariant-loop-removal
invariant-loop-removal l = list_any (is_back l.self) (up_to l.pkg l.self.removals) ≡ list_any (is_back l.self) (up_to l.pkg (drop l.removal-index l.self.removals))

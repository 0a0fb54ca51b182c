use Rattle.std.proofs.Common.{◌≡◌, ◌≤◌, filter, length, take}
use Rattle.switch_journal.specs.Applying.{is_removal}
use Rattle.switch_journal.proofs.request.Open.removed_count.Given as goal

abbrev pub invariant-loop-what : goal.invariant-loop-what
invariant-loop-what l = record {
  count : l.count ≡ length (filter is_removal (take l.what-index l.self.done));
  low : l.count ≤ l.what-index;
}

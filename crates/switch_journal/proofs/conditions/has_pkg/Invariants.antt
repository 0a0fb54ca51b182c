use Rattle.std.proofs.Common.{◌≡◌, drop, map}
use Rattle.std.specs.List.{list_any}
use Rattle.switch_journal.specs.Applying.{is_of}
use Rattle.switch_journal.specs.Contents.{entry_of}
use Rattle.switch_journal.proofs.conditions.has_pkg.Given as goal

abbrev pub invariant-loop-s : goal.invariant-loop-s
invariant-loop-s l = list_any (is_of l.pkg) (map entry_of l.standing) ≡ list_any (is_of l.pkg) (map entry_of (drop l.s-index l.standing))

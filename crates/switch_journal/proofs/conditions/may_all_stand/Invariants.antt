use Rattle.std.proofs.Common.{◌≡◌, drop, map}
use Rattle.std.specs.List.{list_all}
use Rattle.switch_journal.specs.Applying.{may_stand}
use Rattle.switch_journal.specs.Contents.{entry_of}
use Rattle.switch_journal.proofs.conditions.may_all_stand.Given as goal

abbrev pub invariant-loop-s : goal.invariant-loop-s
invariant-loop-s l = list_all (may_stand l.target l.removals) (map entry_of l.standing) ≡ list_all (may_stand l.target l.removals) (map entry_of (drop l.s-index l.standing))

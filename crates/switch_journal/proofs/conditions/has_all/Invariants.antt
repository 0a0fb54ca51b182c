use Rattle.std.proofs.Common.{◌≡◌, drop, map}
use Rattle.switch_journal.specs.Contents.{entry_of}
use Rattle.switch_journal.specs.Keeping.{are_standing}
use Rattle.switch_journal.proofs.conditions.has_all.Given as goal

abbrev pub invariant-loop-pkg : goal.invariant-loop-pkg
invariant-loop-pkg l = are_standing (map entry_of l.standing) l.pkgs ≡ are_standing (map entry_of l.standing) (drop l.pkg-index l.pkgs)

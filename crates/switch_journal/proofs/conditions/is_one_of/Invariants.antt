use Rattle.std.proofs.Common.{◌≡◌, drop}
use Rattle.std.specs.List.{list_any}
use Rattle.switch_journal.specs.Applying.{is_of}
use Rattle.switch_journal.proofs.conditions.is_one_of.Given as goal

abbrev pub invariant-loop-pkg : goal.invariant-loop-pkg
invariant-loop-pkg l = list_any (λ pkg. is_of pkg l.entry) l.pkgs ≡ list_any (λ pkg. is_of pkg l.entry) (drop l.pkg-index l.pkgs)

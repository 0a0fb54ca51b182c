use Rattle.std.proofs.Common.{◌≡◌, map}
use Rattle.switch_journal.specs.Journal.{removal_of}
use Rattle.switch_journal.proofs.steps.removals.Given as goal

abbrev pub invariant-loop-path : goal.invariant-loop-path
invariant-loop-path l = l.writes ≡ map removal_of l.yielded

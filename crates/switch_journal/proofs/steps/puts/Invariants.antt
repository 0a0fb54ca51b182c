use Rattle.std.proofs.Common.{◌≡◌, map}
use Rattle.switch_journal.specs.Journal.{put_of}
use Rattle.switch_journal.proofs.steps.puts.Given as goal

abbrev pub invariant-loop-file : goal.invariant-loop-file
invariant-loop-file l = l.writes ≡ map put_of l.yielded

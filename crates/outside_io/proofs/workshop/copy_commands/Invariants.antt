use Rattle.std.proofs.Common.{◌≡◌, take}
use Rattle.outside_io.proofs.workshop.copy_commands.Given as goal

abbrev pub invariant-loop-words : goal.invariant-loop-words
invariant-loop-words l = l.copies ≡ take l.words-index l.commands

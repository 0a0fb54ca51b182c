use Rattle.std.proofs.Common.{◌≡◌, [], fold, take}
use Rattle.command_words.specs.Readings.{with_name}
use Rattle.command_words.proofs.building.names_of.Given as goal

abbrev pub invariant-loop-argument : goal.invariant-loop-argument
invariant-loop-argument l = l.names.keys ≡ fold with_name [] (take l.argument-index l.given)

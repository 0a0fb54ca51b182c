use Rattle.std.proofs.Common.{◌≡◌, drop}
use Rattle.command_words.specs.Readings.{option_or}
use Rattle.command_words.proofs.building.value_or.Given as goal

abbrev pub invariant-loop-argument : goal.invariant-loop-argument
invariant-loop-argument l = option_or l.text l.option l.given ≡ option_or l.text l.option (drop l.argument-index l.given)

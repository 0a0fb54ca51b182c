use Rattle.std.proofs.Common.{◌≡◌, drop}
use Rattle.command_words.specs.Readings.{first_word}
use Rattle.command_words.proofs.building.first_word.Given as goal

abbrev pub invariant-loop-argument : goal.invariant-loop-argument
invariant-loop-argument l = first_word l.given ≡ first_word (drop l.argument-index l.given)

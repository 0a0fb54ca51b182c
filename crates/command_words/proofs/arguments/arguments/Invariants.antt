use Rattle.std.proofs.Common.{◌≡◌, ◌++◌, map, length}
use Rattle.std.specs.Prelude.{string_bytes}
use Rattle.command_words.specs.Arguments.{arguments}
use Rattle.command_words.proofs.arguments.arguments.Given as goal

abbrev pub invariant-loop-rest : goal.invariant-loop-rest
invariant-loop-rest l = l.given.items ++ arguments (map string_bytes l.rest) ≡ arguments (map string_bytes l.words)

abbrev pub decreases-loop-rest : goal.decreases-loop-rest
decreases-loop-rest l = length l.rest

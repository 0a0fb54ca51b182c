use Rattle.std.proofs.Common.{◌≡◌, [], take, drop}
use Rattle.command_words.specs.Readings.{first_fault}
use Rattle.command_words.specs.Tables.{row}
use Rattle.command_words.proofs.checking.check_all.Given as goal

abbrev pub invariant-loop-at : goal.invariant-loop-at
invariant-loop-at l = first_fault l.command (row l.kind) [] l.given ≡ first_fault l.command (row l.kind) (take l.at l.given) (drop l.at l.given)

use Rattle.std.proofs.Common.{◌≡◌, ◌++◌, drop}
use Rattle.std.specs.Prelude.{filter}
use Rattle.opam_top.specs.Installs.{has_words}
use Rattle.opam_top.proofs.jobs.commands_with_words.Given as goal

abbrev pub invariant-loop-command : goal.invariant-loop-command
invariant-loop-command l = l.kept ++ filter has_words (drop l.command-index l.commands) ≡ filter has_words l.commands

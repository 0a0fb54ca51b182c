use Rattle.std.proofs.Common.{◌≡◌, ◌++◌, drop}
use Rattle.opam_top.specs.OpamFiles.{further_commands}
use Rattle.opam_top.proofs.opam_file.push_further_commands.Given as goal

abbrev pub invariant-loop-command : goal.invariant-loop-command
invariant-loop-command l = l.text.items ++ further_commands (drop l.command-index l.commands) ≡ l.initial.text.items ++ further_commands l.commands

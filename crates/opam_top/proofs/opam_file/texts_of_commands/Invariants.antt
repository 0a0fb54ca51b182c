use Rattle.std.proofs.Common.{◌≡◌, drop, take}
use Rattle.std.specs.List.{list_all}
use Rattle.opam_top.specs.OpamFiles.{is_word}
use Rattle.opam_top.proofs.opam_file.texts_of_commands.Given as goal

abbrev pub invariant-loop-command : goal.invariant-loop-command
invariant-loop-command l = record {
  so_far : l.texts ≡ take l.command-index l.commands;
  valid : list_all (list_all is_word) (drop l.command-index l.commands) ≡ list_all (list_all is_word) l.commands;
}

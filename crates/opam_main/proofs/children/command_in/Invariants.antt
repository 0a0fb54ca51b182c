use Rattle.std.proofs.Common.{◌≡◌, Some, codes, take, true}
use Rattle.std.specs.Process.{clears_env, command_args, command_dir, command_program}
use Rattle.opam_main.specs.Commands.{sh_args}
use Rattle.opam_main.proofs.children.command_in.Given as goal

-- the words so far are its arguments
abbrev pub invariant-loop-word : goal.invariant-loop-word
invariant-loop-word l =
    (command_program l.command ≡ codes "sh") × (command_args l.command ≡ sh_args (take l.word-index l.words))
    × (clears_env l.command ≡ true) × (command_dir l.command ≡ Some l.folder)

use Rattle.std.proofs.Common.{◌≡◌, drop, take}
use Rattle.std.specs.List.{list_all}
use Rattle.opam_top.specs.OpamFiles.{is_word}
use Rattle.opam_top.proofs.opam_file.texts_of_command.Given as goal

abbrev pub invariant-loop-word : goal.invariant-loop-word
invariant-loop-word l = record {
  so_far : l.texts ≡ take l.word-index l.words;
  valid : list_all is_word (drop l.word-index l.words) ≡ list_all is_word l.words;
}

use Rattle.std.proofs.Common.{◌≡◌, ◌++◌, drop}
use Rattle.opam_top.specs.OpamFiles.{further_words}
use Rattle.opam_top.proofs.opam_file.push_further_words.Given as goal

abbrev pub invariant-loop-word : goal.invariant-loop-word
invariant-loop-word l = l.text.items ++ further_words (drop l.word-index l.words) ≡ l.initial.text.items ++ further_words l.words

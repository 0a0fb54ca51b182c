use Rattle.std.proofs.Common.{◌≡◌, ◌++◌, map}
use Rattle.syntax_trees.specs.declared.file.Item.{Item}
use Rattle.syntax_trees.specs.declared.file.Key.{Key}
use Rattle.syntax_trees.specs.Files.{Contents}
use Rattle.opam_syntax.specs.Spelling.{items_text, file_text}
use Rattle.syntax_trees.specs.Trees.{contents_of}
use Rattle.opam_syntax.proofs.printing.print_file.Given as goal

-- what is printed, and then what is left
abbrev pub invariant-loop-key : goal.invariant-loop-key
invariant-loop-key l =
    l.out.items ++ items_text (map (λ (item : Key × Item). let pair : Key × Contents = (item.0, contents_of item.1) in pair) l.key-iterator)
    ≡ file_text l.file

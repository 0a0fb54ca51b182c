-- The items of a file as the loops over its map see them.
use Rattle.std.proofs.Common.{List, map}
use Rattle.syntax_trees.specs.declared.file.Item.{Item}
use Rattle.syntax_trees.specs.declared.file.Key.{Key}
use Rattle.syntax_trees.specs.Files.{Contents}
use Rattle.syntax_trees.specs.Trees.{contents_of}

abbrev pub told : List (Key × Item) → List (Key × Contents)
told entries = map (λ (item : Key × Item). let pair : Key × Contents = (item.0, contents_of item.1) in pair) entries

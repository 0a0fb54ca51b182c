-- The one constraint among several values.
use Rattle.std.proofs.Common.{List, ◌∷◌}
use Rattle.std.specs.declared.option.Option.{Option}
use Rattle.std.specs.declared.option.Option.TheVariants.{None, Some}
use Rattle.syntax_trees.specs.declared.tree.Node.{Node}

-- what was found, and then others
abbrev pub found_and : Option Node → List Node → List Node
found_and None nodes = nodes
found_and (Some node) nodes = node ∷ nodes

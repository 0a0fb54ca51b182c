use Rattle.std.proofs.Common.{◌≡◌}
use Rattle.syntax_trees.specs.Trees.{items_of}
use Rattle.opam_package.specs.Packages as packages
use Rattle.opam_package.proofs.Told.{told}
use Rattle.opam_package.proofs.sources.refused_names.Given as goal

-- the names so far, and then those of the items that are left
abbrev pub invariant-loop-key : goal.invariant-loop-key
invariant-loop-key l = packages.with_refused l.names (told l.key-iterator) ≡ packages.refused_names (items_of l.file)

use Rattle.std.proofs.Common.{◌≡◌}
use Rattle.syntax_trees.specs.Trees.{items_of}
use Rattle.opam_package.specs.Packages as packages
use Rattle.opam_package.proofs.Told.{told}
use Rattle.opam_package.proofs.sources.first_source.Given as goal

-- the items that are left give them
abbrev pub invariant-loop-key : goal.invariant-loop-key
invariant-loop-key l = packages.source_of (told l.key-iterator) ≡ packages.source_of (items_of l.file)

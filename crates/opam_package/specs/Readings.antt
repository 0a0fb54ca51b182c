-- Words of private clauses alone: the variables of the three readings of `depends` in one value, and an item as a map has it.
use Rattle.std.specs.Prelude.{ℕ, List}
use Rattle.opam_names.specs.declared.packages.Pkg.{Pkg}
use Rattle.syntax_trees.specs.Trees.{contents_of}
use Rattle.syntax_trees.specs.declared.file.Item.{Item}
use Rattle.syntax_trees.specs.declared.tree.Node.{Node}
use Rattle.opam_package.specs.declared.fault.PackageFault.{PackageFault}
use Rattle.opam_package.specs.declared.formulas.Readings.{Readings}
use Rattle.opam_package.specs.declared.package.Need.{Need}
use Rattle.opam_package.specs.FieldFaults.{item_faults}
use Rattle.opam_package.specs.Packages.{need_by}

-- a value of `depends` under these
abbrev pub need_under : Readings → Node → Need
need_under readings = need_by readings.runtime readings.building readings.full

-- the faults of an item
abbrev pub entry_faults : Pkg → List ℕ → Item → List PackageFault
entry_faults pkg name item = item_faults pkg name (contents_of item)

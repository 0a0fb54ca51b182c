use Rattle.std.proofs.Common.{◌≡◌, drop}
use Rattle.syntax_trees.specs.Trees.{items_of}
use Rattle.install_sections.specs.declared.limits.TheConstants.{ITEM_LIMIT}
use Rattle.install_sections.specs.Placements.{items_in}
use Rattle.install_sections.proofs.Told.{told}
use Rattle.install_sections.proofs.reading.excess_fault.Given as goal

-- what stands behind the room in what is left
abbrev pub invariant-loop-key : goal.invariant-loop-key
invariant-loop-key l = drop l.room (items_in (told l.key-iterator)) ≡ drop ITEM_LIMIT (items_in (items_of l.file))

use Rattle.std.proofs.Common.{◌≡◌}
use Rattle.syntax_trees.specs.Trees.{items_of}
use Rattle.opam_package.specs.FieldFaults.{file_faults}
use Rattle.opam_package.specs.PackageFaults.{first_fault, sooner}
use Rattle.opam_package.proofs.Told.{told}
use Rattle.opam_package.proofs.field_faults.file_fault.Given as goal

-- the first so far, and then that of the items that are left
abbrev pub invariant-loop-key : goal.invariant-loop-key
invariant-loop-key l =
    sooner l.first (first_fault (file_faults l.pkg (told l.key-iterator))) ≡ first_fault (file_faults l.pkg (items_of l.file))

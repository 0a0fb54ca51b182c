use Rattle.std.proofs.Common.{◌≡◌, drop}
use Rattle.std.specs.List.{flat_map}
use Rattle.opam_package.specs.Forms.{text_faults}
use Rattle.opam_package.specs.PackageFaults.{first_fault, sooner}
use Rattle.opam_package.proofs.forms.texts_fault.Given as goal

-- the first so far, and then that of those that are left
abbrev pub invariant-loop-value : goal.invariant-loop-value
invariant-loop-value l =
    sooner l.first (first_fault (flat_map text_faults (drop l.value-index l.values))) ≡ first_fault (flat_map text_faults l.values)

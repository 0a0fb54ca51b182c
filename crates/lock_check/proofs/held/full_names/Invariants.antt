use Rattle.std.proofs.Common.{◌≡◌, ◌++◌, drop}
use Rattle.std.specs.List.{flat_map}
use Rattle.opam_filter.specs.Sets.{names}
use Rattle.opam_package.specs.declared.package.Need.{Need}
use Rattle.lock_check.proofs.held.full_names.Given as goal

-- those so far, and then those of the formulas that are left
abbrev pub invariant-loop-need : goal.invariant-loop-need
invariant-loop-need l =
    l.found ++ flat_map (λ (need : Need). names need.full) (drop l.need-index l.needs) ≡ flat_map (λ (need : Need). names need.full) l.needs

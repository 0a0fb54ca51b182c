use Rattle.std.proofs.Common.{◌≡◌, ◌++◌, drop}
use Rattle.opam_package.specs.Wishes.{picked_in}
use Rattle.opam_package.proofs.dependencies.pick.Given as goal

-- the names so far, and then those of the packages that are left
abbrev pub invariant-loop-other : goal.invariant-loop-other
invariant-loop-other l =
    l.found ++ picked_in l.dependent l.named l.wishes (drop l.other-index l.set) ≡ picked_in l.dependent l.named l.wishes l.set

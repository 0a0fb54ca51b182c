use Rattle.std.proofs.Common.{◌≡◌, take}
use Rattle.opam_package.proofs.copies.copy_atoms.Given as goal

-- those so far are copied
abbrev pub invariant-loop-atom : goal.invariant-loop-atom
invariant-loop-atom l = l.copies ≡ take l.atom-index l.atoms

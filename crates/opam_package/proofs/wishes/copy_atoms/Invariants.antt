use Rattle.std.proofs.Common.{◌≡◌, ◌++◌, drop, map}
use Rattle.opam_package.specs.Wishes.{wish_of}
use Rattle.opam_package.proofs.wishes.copy_atoms.Given as goal

-- the copies so far, and then those of the atoms that are left
abbrev pub invariant-loop-atom : goal.invariant-loop-atom
invariant-loop-atom l = l.wishes.items ++ map wish_of (drop l.atom-index l.atoms) ≡ map wish_of l.atoms

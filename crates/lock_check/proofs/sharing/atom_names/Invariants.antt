use Rattle.std.proofs.Common.{◌≡◌, ◌++◌, drop}
use Rattle.lock_check.specs.Sharing.{atom_names}
use Rattle.lock_check.proofs.sharing.atom_names.Given as goal

-- those so far, and then those that are left
abbrev pub invariant-loop-atom : goal.invariant-loop-atom
invariant-loop-atom l = l.names ++ atom_names (drop l.atom-index l.atoms) ≡ atom_names l.atoms

use Rattle.std.proofs.Common.{◌≡◌, take}
use Rattle.rows.specs.Pieces.{with_roots}
use Rattle.rows.proofs.pieces.give_roots.Given as goal

abbrev pub invariant-loop-root : goal.invariant-loop-root
invariant-loop-root l = l.slot ≡ with_roots (take l.root-index l.roots) l.initial.slot

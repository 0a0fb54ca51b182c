use Rattle.std.proofs.Common.{◌≡◌, length, take}
use Rattle.owner_map.specs.Chunks.{joined}
use Rattle.owner_map.proofs.chunks.count_all.Given as goal

abbrev pub invariant-loop-i : goal.invariant-loop-i
invariant-loop-i g l = l.count ≡ length (joined (take l.i l.chunks))

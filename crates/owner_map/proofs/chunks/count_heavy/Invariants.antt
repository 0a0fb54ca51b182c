use Rattle.std.proofs.Common.{◌≤◌, ◌*◌, take}
use Rattle.owner_map.specs.Chunks.{debt}
use Rattle.owner_map.specs.declared.chunk.TheConstants.{CHUNK_HALF}
use Rattle.owner_map.proofs.chunks.count_heavy.Given as goal

abbrev pub invariant-loop-i : goal.invariant-loop-i
invariant-loop-i g l = record {
  debts : debt (take l.i l.chunks) ≤ l.heavy * CHUNK_HALF;
  within : l.heavy ≤ l.i;
}

use Rattle.std.proofs.Common.{◌≡◌, ◌≤◌, length}
use Rattle.owner_map.proofs.Splitting.{IsGathered}
use Rattle.owner_map.proofs.chunks.gather.Given as goal

abbrev pub invariant-loop-i : goal.invariant-loop-i
invariant-loop-i g l = record {
  gathered : IsGathered l.fn.chunks.items l.chunks.items l.filled l.i;
  less : l.filled ≤ l.i;
  same : length l.chunks.items ≡ length l.fn.chunks.items;
}

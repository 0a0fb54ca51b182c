use Rattle.std.proofs.Common.{◌-◌, ◌≤◌, length}
use Rattle.owner_map.proofs.Splitting.{IsLonger}
use Rattle.owner_map.proofs.chunks.add_empty.Given as goal

abbrev pub invariant-loop : goal.invariant-loop
invariant-loop g l = record {
  longer : IsLonger l.used l.fn.chunks.items l.chunks.items;
  free : l.counter ≤ length l.chunks.items - l.used;
}

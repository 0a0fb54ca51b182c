use Rattle.std.proofs.Common.{◌≡◌, ◌+◌, ◌++◌, map, filter, take, drop, length}
use Rattle.owner_map.specs.Chunks.{joined}
use Rattle.owner_map.specs.Owning.{is_of_another}
use Rattle.owner_map.proofs.chunks.drop_from_each.Given as goal

abbrev pub invariant-loop-i : goal.invariant-loop-i
invariant-loop-i l = record {
  is : l.chunks.items ≡ map (filter (is_of_another l.owner)) (take l.i l.fn.chunks.items) ++ drop l.i l.fn.chunks.items;
  count : l.count + length (joined l.chunks.items) ≡ length (joined l.fn.chunks.items);
  same : length l.chunks.items ≡ length l.fn.chunks.items;
}

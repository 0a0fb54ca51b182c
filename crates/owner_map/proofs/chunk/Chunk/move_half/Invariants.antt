use Rattle.std.proofs.Common.{◌≡◌, ◌≤◌, ◌++◌, length}
use Rattle.std.specs.Vec.{vec_capacity}
use Rattle.owner_map.specs.declared.chunk.TheConstants.{CHUNK_LIMIT}
use Rattle.owner_map.proofs.chunk.Chunk.move_half.Given as goal

abbrev pub invariant-loop : goal.invariant-loop
invariant-loop g l = record {
  joins : l.self-inside.inner.items ++ l.other ≡ l.fn.self;
  count : length l.other ≡ l.counter;
  room : CHUNK_LIMIT ≤ vec_capacity l.self-inside.inner;
}

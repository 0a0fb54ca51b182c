use Rattle.std.proofs.Common.{◌≡◌, take}
use Rattle.owner_map.specs.Chunks.{joined}
use Rattle.owner_map.specs.Owning.{paths_owned_by}
use Rattle.owner_map.proofs.chunks.paths_of.Given as goal

abbrev pub invariant-loop-chunk : goal.invariant-loop-chunk
invariant-loop-chunk l = l.paths ≡ paths_owned_by l.owner (joined (take l.chunk-index l.chunks))

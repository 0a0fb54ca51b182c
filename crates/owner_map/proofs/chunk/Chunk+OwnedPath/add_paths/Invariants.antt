use Rattle.std.proofs.Common.{◌≡◌, ◌++◌, take}
use Rattle.owner_map.specs.Owning.{paths_owned_by}
use Rattle.owner_map.proofs.chunk.Chunk+OwnedPath.add_paths.Given as goal

abbrev pub invariant-loop-entry : goal.invariant-loop-entry
invariant-loop-entry l = l.paths ≡ l.fn.paths ++ paths_owned_by l.owner (take l.entry-index l.self)

use Rattle.std.proofs.Common.{◌+◌, ◌≤◌, length}
use Rattle.owner_map.specs.Clashes.{NoneClash}
use Rattle.owner_map.specs.Owning.{paths_of}
use Rattle.owner_map.specs.Searching.{Gathers}
use Rattle.owner_map.proofs.owners.Owners.clash.Given as goal

abbrev pub invariant-loop-index : goal.invariant-loop-index
invariant-loop-index l = record {
  gathers : Gathers l.paths l.index l.earlier.items;
  room : length l.paths ≤ l.index + l.earlier.room;
  none : NoneClash (paths_of l.self.owned) l.paths l.index;
}

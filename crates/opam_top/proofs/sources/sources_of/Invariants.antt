use Rattle.std.proofs.Common.{◌≡◌, ◌+◌, drop, map, take, Some}
use Rattle.outside_io.specs.Shops.{Told}
use Rattle.opam_top.specs.Placements.{bin_path, first_room, paths_of, placed_from, prepend, total_bytes}
use Rattle.opam_top.proofs.sources.sources_of.Given as goal

-- the files so far and those of the rest are all
abbrev pub invariant-loop-item : goal.invariant-loop-item
invariant-loop-item g l = record {
  paths : paths_of l.files ≡ map bin_path (take l.item-index l.items);
  total : total_bytes l.files + l.room ≡ first_room;
  told : (told : Told) → g.W.Workshop.told l.shop ≡ Some told → prepend l.files (placed_from (told.files l.job) l.room (drop l.item-index l.items)) ≡ placed_from (told.files l.job) first_room l.items;
}

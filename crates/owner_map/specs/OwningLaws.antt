-- Laws of owned paths.
use Rattle.std.specs.Prelude.{◌≡◌, ℕ, List, ◌||◌}
use Rattle.std.specs.List.{list_any}
use Rattle.opam_names.specs.ByteOrders.{put_by}
use Rattle.path_order.specs.Apart.{meets}
use Rattle.owner_map.specs.Owning.{path_of, paths_of}
use Rattle.owner_map.specs.declared.owned.OwnedPath.{OwnedPath}

-- after an addition a path meets the new one or one of the old ones
abbrev pub AdditionsAreMet : Type 0
AdditionsAreMet = (path : List ℕ) (entry : OwnedPath) (owned : List OwnedPath) → list_any (meets path) (paths_of (put_by path_of entry owned)) ≡ (meets path entry.path || list_any (meets path) (paths_of owned))

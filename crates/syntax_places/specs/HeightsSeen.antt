-- The heights of a walk as the definition of heights sees them. This project's own.
use Rattle.std.specs.Prelude.{List, map, reverse}
use Rattle.syntax_trees.specs.Heights.{OperandMode, Wanted, LeftRead, RightWanted, RightRead, KeptHeight, HeightState}
use Rattle.syntax_places.specs.declared.heights.Heights.{Heights}
use Rattle.syntax_places.specs.declared.heights.Kept.{Kept}
use Rattle.syntax_places.specs.declared.heights.Mode.{Mode}
use Rattle.syntax_places.specs.declared.heights.Mode.TheVariants as mode

abbrev pub mode_of : Mode → OperandMode
mode_of mode.Wanted = Wanted
mode_of mode.LeftRead = LeftRead
mode_of mode.RightWanted = RightWanted
mode_of mode.RightRead = RightRead

abbrev pub kept_of : Kept → KeptHeight
kept_of k = record { floor = k.floor; level = k.level; mode = mode_of k.mode }

-- the last of the vector is that of the innermost bracket
abbrev pub all_kept : List Kept → List KeptHeight
all_kept kept = map kept_of (reverse kept)

abbrev pub heights_of : Heights → HeightState
heights_of h = record { floor = h.floor; level = h.level; mode = mode_of h.mode; kept = all_kept h.kept.items }

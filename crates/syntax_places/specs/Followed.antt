-- What the tokens so far let follow, with how deep they nest. This project's own.
use Rattle.std.specs.Prelude.{false}
use Rattle.syntax_trees.specs.Following.{TokenControl, at_entry}
use Rattle.syntax_trees.specs.Heights.{HeightState, height_start}

-- what may follow, and how many brackets and prefix operators are open
pub record Followed : Type 0 where
  pub control : TokenControl
  pub height : HeightState

-- before the first token
abbrev pub at_start : Followed
at_start = record { control = at_entry false; height = height_start }

-- Files of nobody stay as they are, whatever a change does. This project's own.
use Rattle.std.specs.Prelude.{◌≡◌, ℕ, List}
use Rattle.std.specs.FinMap.{get}
use Rattle.switch_state.specs.Sound.{IsForeign}
use Rattle.change_outcome.specs.Changes.{Change, Point}
use Rattle.change_outcome.specs.Outcomes.{cut}

-- the file at the path is as it was, and still nobody's
pub record IsLeftAlone (before after : Point) (path : List ℕ) : Type 0 where
  pub same : get after.files path ≡ get before.files path
  pub foreign : IsForeign after.state after.files path

-- after each of the committed actions every file that was nobody's as the change began is left alone
abbrev pub ForeignFilesStay : Type 0
ForeignFilesStay = (change : Change) (start : Point) (count : ℕ) (path : List ℕ) → IsForeign start.state start.files path → IsLeftAlone start (cut change start count) path

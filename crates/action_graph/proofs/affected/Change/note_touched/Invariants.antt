use Rattle.std.proofs.Common.{◌≡◌, ◌++◌, take}
use Rattle.action_graph.specs.Leaving.{is_touched}
use Rattle.action_graph.specs.Links.{member_names}
use Rattle.action_graph.specs.Places.{places_from}
use Rattle.action_graph.proofs.affected.Change.note_touched.Given as goal

abbrev pub invariant-loop-at : goal.invariant-loop-at
invariant-loop-at l = l.touched ≡ l.initial.touched ++ places_from (is_touched l.self.installed.now l.self.members.now l.self.redo.now) l.from (member_names (take l.at l.some))

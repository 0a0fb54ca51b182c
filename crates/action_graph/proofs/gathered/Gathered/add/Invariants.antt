use Rattle.std.proofs.Common.{◌≡◌, take}
use Rattle.action_graph.specs.Found.{Adds}
use Rattle.action_graph.specs.Gathering.{gathered_marks}
use Rattle.action_graph.proofs.gathered.Gathered.add.Given as goal

-- those so far are added
abbrev pub invariant-loop-place : goal.invariant-loop-place
invariant-loop-place l =
    (l.self.count ≡ l.initial.self.count)
    × Adds (gathered_marks l.initial.self) l.initial.self.places (take l.place-index l.places) (gathered_marks l.self) l.self.places

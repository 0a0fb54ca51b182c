use Rattle.std.proofs.Common.{take}
use Rattle.change_floor.specs.Keeping.{KnowsPlaces}
use Rattle.change_floor.proofs.index.places_of.Given as goal

abbrev pub invariant-loop-place : goal.invariant-loop-place
invariant-loop-place l = KnowsPlaces (take l.place l.installs) l.places

use Rattle.std.proofs.Common.{◌-◌, length}
use Rattle.owner_map.proofs.Splitting.{IsPlaceFrom}
use Rattle.owner_map.proofs.chunks.element.Given as goal

abbrev pub invariant-loop-rest : goal.invariant-loop-rest
invariant-loop-rest g l = IsPlaceFrom l.chunks l.place l.at l.rest

abbrev pub decreases-loop-rest : goal.decreases-loop-rest
decreases-loop-rest g l = length l.chunks - l.at

use Rattle.std.proofs.Common.{◌≡◌, ◌+◌, drop, length}
use Rattle.std.specs.List.{sum_by}
use Rattle.generated_set.proofs.drawing.edge_count.Given as goal

-- what is counted and what is left make the whole
abbrev pub invariant-loop-row : goal.invariant-loop-row
invariant-loop-row l = l.count + sum_by length (drop l.row-index l.needs) ≡ sum_by length l.needs

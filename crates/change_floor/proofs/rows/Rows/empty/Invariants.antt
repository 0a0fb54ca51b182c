use Rattle.std.proofs.Common.{◌≡◌, List, ℕ, [], map, replicate}
use Rattle.change_floor.proofs.rows.Rows.empty.Given as goal

abbrev pub invariant-loop-place : goal.invariant-loop-place
invariant-loop-place l = map (λ row. row.items) l.inner.items ≡ replicate {A = List ℕ} l._place []

use Rattle.std.proofs.Common.{◌≡◌, ◌<◌}
use Rattle.generated_set.specs.Drawing.{needs_of, state_at}
use Rattle.generated_set.proofs.drawing.generated_needs.Given as goal

abbrev pub invariant-loop-place : goal.invariant-loop-place
invariant-loop-place l = record {
  state : l.state ≡ state_at l.seed l.place;
  small : l.state < 2147483648;
  needs : l.all ≡ needs_of l.seed l.place;
}

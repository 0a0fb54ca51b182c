use Rattle.std.proofs.Common.{◌≡◌, ◌<◌}
use Rattle.generated_set.specs.Drawing.{none_drawn, with_draws}
use Rattle.generated_set.proofs.drawing.drawn_after.Given as goal

abbrev pub invariant-loop : goal.invariant-loop
invariant-loop l = record {
  state : l.drawn.state ≡ (with_draws l.place l.counter (none_drawn l.state)).state;
  needs : l.drawn.needs ≡ (with_draws l.place l.counter (none_drawn l.state)).needs;
  small : l.drawn.state < 2147483648;
}

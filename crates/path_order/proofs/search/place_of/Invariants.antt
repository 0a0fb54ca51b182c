use Rattle.std.proofs.Common.{◌≡◌, ℕ, ◌-◌, ◌<◌, ◌≤◌, length, map}
use Rattle.std.specs.declared.cmp.Ordering.TheVariants.{Less}
use Rattle.path_order.proofs.Fronts.{C}
use Rattle.path_order.proofs.Lists.{nth}
use Rattle.path_order.proofs.search.place_of.Given as goal

abbrev pub invariant-loop-least : goal.invariant-loop-least
invariant-loop-least g l = record {
  ordered : l.least ≤ l.most;
  within : l.most ≤ length l.list;
  before : (k : ℕ) → k < l.least → C (nth (map g.T.Pathed.path l.list) k) l.text ≡ Less;
  from : (k : ℕ) → l.most ≤ k → k < length l.list → C (nth (map g.T.Pathed.path l.list) k) l.text ≡ Less → ⊥;
}

abbrev pub decreases-loop-least : goal.decreases-loop-least
decreases-loop-least g l = l.most - l.least

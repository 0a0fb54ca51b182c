use Rattle.std.proofs.Common.{◌≡◌, ◌+◌, length}
use Rattle.path_order.specs.Parting.{common_len}
use Rattle.path_order.proofs.texts.common_len.Given as goal

abbrev pub invariant-loop-left : goal.invariant-loop-left
invariant-loop-left l =
    (l.len + common_len l.left l.other ≡ common_len l.a l.b) × (l.len + length l.left ≡ length l.a) × (l.len + length l.other ≡ length l.b)

abbrev pub decreases-loop-left : goal.decreases-loop-left
decreases-loop-left l = length l.left

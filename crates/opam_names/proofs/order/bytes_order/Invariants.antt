use Rattle.std.proofs.Common.{◌≡◌, ◌+◌, length}
use Rattle.opam_names.specs.Orders.{text_order}
use Rattle.opam_names.proofs.order.bytes_order.Given as goal

abbrev pub invariant-loop-a : goal.invariant-loop-a
invariant-loop-a l = text_order l.fn.a l.fn.b ≡ text_order l.a l.b

abbrev pub decreases-loop-a : goal.decreases-loop-a
decreases-loop-a l = length l.a + length l.b

use Rattle.std.proofs.Common.{◌≡◌, drop}
use Rattle.opam_names.specs.Orders.{word_order}
use Rattle.opam_names.proofs.order.word_order.Given as goal

abbrev pub invariant-loop-at : goal.invariant-loop-at
invariant-loop-at l = word_order l.a l.b ≡ word_order (drop l.at l.a) (drop l.at l.b)

use Rattle.std.proofs.Common.{◌≡◌, length}
use Rattle.opam_top.specs.Placements.{in_byte_order, put_all}
use Rattle.opam_top.proofs.placing.sorted.Given as goal

-- what is left and the order so far give all
abbrev pub invariant-loop-file : goal.invariant-loop-file
invariant-loop-file l = put_all l.left.items l.order.items ≡ in_byte_order l.fn.files

abbrev pub decreases-loop-file : goal.decreases-loop-file
decreases-loop-file l = length l.left.items

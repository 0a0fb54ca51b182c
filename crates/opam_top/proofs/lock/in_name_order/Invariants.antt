use Rattle.std.proofs.Common.{◌≡◌, length}
use Rattle.opam_top.specs.Locks.{in_name_order, put_pkgs}
use Rattle.opam_top.proofs.lock.in_name_order.Given as goal

-- what is left and the order so far give all
abbrev pub invariant-loop-pkg : goal.invariant-loop-pkg
invariant-loop-pkg l = put_pkgs l.left.items l.order.items ≡ in_name_order l.fn.pkgs

abbrev pub decreases-loop-pkg : goal.decreases-loop-pkg
decreases-loop-pkg l = length l.left.items

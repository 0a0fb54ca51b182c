use Rattle.std.proofs.Common.{◌≡◌, map, drop}
use Rattle.opam_filter.specs.Faults.{judged, some_constrains}
use Rattle.opam_filter.proofs.judging.+constrain.Given as goal

-- those that are left decide
abbrev pub invariant-some_constrains-loop-node : goal.invariant-some_constrains-loop-node
invariant-some_constrains-loop-node l = some_constrains (map judged (drop l.node-index l.nodes)) ≡ some_constrains (map judged l.nodes)

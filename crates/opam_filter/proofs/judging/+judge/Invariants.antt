use Rattle.std.proofs.Common.{◌≡◌, map, drop}
use Rattle.opam_filter.specs.Faults as faults
use Rattle.opam_filter.specs.Faults.{judged}
use Rattle.opam_filter.proofs.judging.+judge.Given as goal

-- the first so far, and then those that are left
abbrev pub invariant-filters_fault-loop-node : goal.invariant-filters_fault-loop-node
invariant-filters_fault-loop-node l = faults.earlier l.first (faults.of_filters (map judged (drop l.node-index l.nodes))) ≡ faults.of_filters (map judged l.nodes)

use Rattle.std.proofs.Common.{◌≡◌, map, drop}
use Rattle.opam_filter.specs.Faults.{judged, earlier, of_braces}
use Rattle.opam_filter.proofs.judging.+brace.Given as goal

-- the first so far, and then those that are left
abbrev pub invariant-all_braces_fault-loop-node : goal.invariant-all_braces_fault-loop-node
invariant-all_braces_fault-loop-node l = earlier l.first (of_braces (map judged (drop l.node-index l.nodes))) ≡ of_braces (map judged l.nodes)

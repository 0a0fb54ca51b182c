use Rattle.std.proofs.Common.{◌≡◌, map, drop}
use Rattle.opam_filter.specs.Faults.{judged, earlier, of_formulas}
use Rattle.opam_filter.proofs.judging.+formula.Given as goal

-- the first so far, and then those that are left
abbrev pub invariant-formulas_fault-loop-node : goal.invariant-formulas_fault-loop-node
invariant-formulas_fault-loop-node l = earlier l.first (of_formulas (map judged (drop l.node-index l.nodes))) ≡ of_formulas (map judged l.nodes)

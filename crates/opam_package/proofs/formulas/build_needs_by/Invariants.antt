use Rattle.std.proofs.Common.{◌≡◌, [], ◌++◌, drop, map}
use Rattle.std.specs.List.{flat_map}
use Rattle.opam_package.specs.Forms.{formula_faults}
use Rattle.opam_package.specs.Packages.{need_by}
use Rattle.opam_package.proofs.formulas.build_needs_by.Given as goal

-- what is built, and then what is left, which has no fault
abbrev pub invariant-loop-node : goal.invariant-loop-node
invariant-loop-node l =
    let need = need_by l.readings.runtime l.readings.building l.readings.full in
    record {
      built : l.needs ++ map need (drop l.node-index l.nodes) ≡ map need l.nodes;
      sound : flat_map formula_faults (drop l.node-index l.nodes) ≡ [];
    }

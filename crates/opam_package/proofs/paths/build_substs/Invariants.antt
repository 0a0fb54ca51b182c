use Rattle.std.proofs.Common.{◌≡◌, [], ◌++◌, drop, map}
use Rattle.std.specs.List.{flat_map}
use Rattle.opam_package.specs.Relatives.{subst_faults, subst_of}
use Rattle.opam_package.proofs.paths.build_substs.Given as goal

-- what is built, and then what is left, which has no fault
abbrev pub invariant-loop-value : goal.invariant-loop-value
invariant-loop-value l = record {
  built : l.paths ++ map subst_of (drop l.value-index l.values) ≡ map subst_of l.values;
  sound : flat_map subst_faults (drop l.value-index l.values) ≡ [];
}

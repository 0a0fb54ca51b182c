use Rattle.std.proofs.Common.{◌≡◌, [], ◌++◌, drop, map}
use Rattle.std.specs.List.{flat_map}
use Rattle.opam_package.specs.Forms.{text_faults, text_of}
use Rattle.opam_package.proofs.texts.build_texts.Given as goal

-- what is built, and then what is left, which has no fault
abbrev pub invariant-loop-value : goal.invariant-loop-value
invariant-loop-value l = record {
  built : l.texts ++ map text_of (drop l.value-index l.values) ≡ map text_of l.values;
  sound : flat_map text_faults (drop l.value-index l.values) ≡ [];
}

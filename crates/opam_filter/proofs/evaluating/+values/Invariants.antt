use Rattle.std.proofs.Common.{◌≡◌, map, drop}
use Rattle.opam_filter.specs.Truths.{all_of, any_of, both, either, truth_of}
use Rattle.opam_filter.specs.Values.{filter_value}
use Rattle.opam_filter.proofs.evaluating.+values.Given as goal

-- the truth so far, and that of the parts that are left
abbrev pub invariant-all_of-loop-part : goal.invariant-all_of-loop-part
invariant-all_of-loop-part l =
    both l.truth (all_of (map truth_of (map (filter_value l.vars) (drop l.part-index l.parts)))) ≡ all_of (map truth_of (map (filter_value l.vars) l.parts))

abbrev pub invariant-any_of-loop-part : goal.invariant-any_of-loop-part
invariant-any_of-loop-part l =
    either l.truth (any_of (map truth_of (map (filter_value l.vars) (drop l.part-index l.parts)))) ≡ any_of (map truth_of (map (filter_value l.vars) l.parts))

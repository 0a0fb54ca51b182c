use Rattle.std.proofs.Common.{◌≡◌, map, drop}
use Rattle.std.specs.Option.{option_copied}
use Rattle.opam_filter.specs.Reductions.{counted, test_truth}
use Rattle.opam_filter.specs.Truths.{all_of, any_of, both, either}
use Rattle.opam_filter.proofs.reducing.+truth.Given as goal

-- what is joined so far, and then what is left
abbrev pub invariant-all_of-loop-test : goal.invariant-all_of-loop-test
invariant-all_of-loop-test l =
    both l.truth (all_of (map (test_truth (counted (option_copied l.version))) (drop l.test-index l.tests)))
    ≡ all_of (map (test_truth (counted (option_copied l.version))) l.tests)

abbrev pub invariant-any_of-loop-test : goal.invariant-any_of-loop-test
invariant-any_of-loop-test l =
    either l.truth (any_of (map (test_truth (counted (option_copied l.version))) (drop l.test-index l.tests)))
    ≡ any_of (map (test_truth (counted (option_copied l.version))) l.tests)

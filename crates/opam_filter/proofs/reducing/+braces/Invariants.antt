use Rattle.std.proofs.Common.{◌≡◌, map, take}
use Rattle.opam_filter.specs.Reductions.{test_of}
use Rattle.opam_filter.proofs.reducing.+braces.Given as goal

abbrev pub invariant-tests_of-loop-part : goal.invariant-tests_of-loop-part
invariant-tests_of-loop-part l = l.tests ≡ map (test_of l.vars) (take l.part-index l.parts)

use Rattle.std.proofs.Common.{◌≡◌, take}
use Rattle.opam_filter.proofs.+copy_test.Given as goal

abbrev pub invariant-copies::copy_tests-loop-test : goal.invariant-copies::copy_tests-loop-test
invariant-copies::copy_tests-loop-test l = l.copies ≡ take l.test-index l.tests

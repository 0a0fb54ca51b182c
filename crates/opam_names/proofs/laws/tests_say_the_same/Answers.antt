use Rattle.opam_names.proofs.Tests.{tests_say_the_same}
use Rattle.opam_names.proofs.laws.tests_say_the_same.Goals as goal

pub returns : goal.returns
returns c = tests_say_the_same

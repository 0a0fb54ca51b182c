use Rattle.opam_package.proofs.ToldFirst.{told}
use Rattle.opam_package.proofs.laws.the_first_is_told.Goals as goal

pub returns : goal.returns
returns c = told

use Rattle.opam_filter.proofs.ReducedLaws.{reducing_says_the_same}
use Rattle.opam_filter.proofs.formula_laws.reducing_says_the_same.Goals as goal

pub returns : goal.returns
returns c = reducing_says_the_same

use Rattle.opam_names.proofs.OrderLaws.{first_difference_decides}
use Rattle.opam_names.proofs.laws.first_difference_decides.Goals as goal

pub returns : goal.returns
returns c = first_difference_decides

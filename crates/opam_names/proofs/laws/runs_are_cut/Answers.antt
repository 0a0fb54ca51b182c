use Rattle.opam_names.proofs.OrderLaws.{runs_are_cut}
use Rattle.opam_names.proofs.laws.runs_are_cut.Goals as goal

pub returns : goal.returns
returns c = runs_are_cut

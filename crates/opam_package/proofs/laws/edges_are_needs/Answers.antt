use Rattle.opam_package.proofs.EdgeLaws.{edges_are_needs}
use Rattle.opam_package.proofs.laws.edges_are_needs.Goals as goal

pub returns : goal.returns
returns c = edges_are_needs

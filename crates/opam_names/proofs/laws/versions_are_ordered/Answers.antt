use Rattle.opam_names.proofs.OrderTotal.{versions_are_ordered}
use Rattle.opam_names.proofs.laws.versions_are_ordered.Goals as goal

pub returns : goal.returns
returns c = versions_are_ordered

use Rattle.opam_names.proofs.OrderLaws.{equal_versions_differ_in_zeros}
use Rattle.opam_names.proofs.laws.equal_versions_differ_in_zeros.Goals as goal

pub returns : goal.returns
returns c = equal_versions_differ_in_zeros
